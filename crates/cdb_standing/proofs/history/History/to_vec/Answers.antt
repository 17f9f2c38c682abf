use Rattle.std.proofs.Common.{◌∙◌}
use Rattle.cdb_standing.proofs.CutsFound.{zeros}
use Rattle.cdb_standing.proofs.Gathering.{if_ok_mapped, all_in_order}
use Rattle.cdb_standing.proofs.history.History.to_vec.Goals as goal

pub returns : goal.returns
returns c =
    if_ok_mapped (λ events ordered.
    all_in_order c.self.invariant.kept.sound ordered (zeros 9) ∙ c.self.view_is)
    c.in_order.result c.in_order.ensures
