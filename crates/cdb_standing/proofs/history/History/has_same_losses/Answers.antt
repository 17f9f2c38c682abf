use Rattle.cdb_standing.proofs.Numbered.{lose_same_is}
use Rattle.cdb_standing.proofs.history.History.has_same_losses.Goals as goal

pub returns : goal.returns
returns c =
    let same =
    lose_same_is c.self.invariant.kept.sound c.other.invariant.kept.sound in
    rw (← c.self.view_is, ← c.other.view_is)
    ((λ yes. same.0 (c.have_same_losses.ensures.0 yes)), (λ h. c.have_same_losses.ensures.1 (same.1 h)))
