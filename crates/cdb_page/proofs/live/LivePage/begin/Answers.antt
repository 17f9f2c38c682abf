use Rattle.cdb_page.proofs.OnAndOn.{keeps_up_first}
use Rattle.cdb_page.proofs.live.LivePage.begin.Goals as goal

pub invariant_of-result : goal.invariant_of-result
invariant_of-result g c =
    rw c.of.ensures (keeps_up_first _ _ _ _ _ (g.P.Rewritten.versions c.args.page) _ _ c.in_ok-taken.ensures.items c.requires c.show-outcome.ensures)
