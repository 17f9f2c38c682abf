use Rattle.std.proofs.Common.{sym}
use Rattle.cdb_standing.proofs.Numbered.{writes_are, none_there}
use Rattle.cdb_standing.proofs.history.History.writes_before.Goals as goal

pub returns-in-Some : goal.returns-in-Some
returns-in-Some c =
    rw (← c.self.view_is)
    (writes_are c.self.invariant.kept.sound c.args.register
    c.args.p c.args.k c.in-Some.entry.now.mark c.in-Some.entry.now.kind (sym c.in-Some.ensures) c.writes_before.result
    (rw (← c.number_of.ensures.value) c.writes_before.ensures))

pub returns-in-None : goal.returns-in-None
returns-in-None c =
    rw (← c.self.view_is) (λ at h. absurd (none_there
    c.self.invariant.kept.sound c.args.p c.args.k (sym c.in-None.ensures) at h))
