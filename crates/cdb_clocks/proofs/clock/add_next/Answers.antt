use Rattle.std.proofs.Common.{ap, ◌∙◌, Some}
use Rattle.std.proofs.lemmas.Result.{on_ok_weaker}
use Rattle.cdb_clocks.proofs.Next.{kept_at_loss, kept_at_step}
use Rattle.cdb_standing.specs.Tables.{rows_in}
use Rattle.cdb_clocks.proofs.clock.add_next.Goals as goal

pub returns-in-Step-clause-next : goal.returns-in-Step-clause-next
returns-in-Step-clause-next c =
    on_ok_weaker c.add_clock.result (λ put end stands kept.
    let at = stands ∙ ap Some c.in-Step.is in
    kept_at_step c.args.history.now end (rows_in c.args.rows.now.items) kept c.requires.comparable c.requires.numbered c.in-Step.p c.in-Step.k
    c.in-Step.kind at c.next_clock-clock.result (c.next_clock-clock.ensures end c.in-Step.kind at kept) (rows_in c.add_clock.new.rows.items) put)
    c.add_clock.ensures

pub returns-in-Lost-clause-next : goal.returns-in-Lost-clause-next
returns-in-Lost-clause-next c = λ end stands kept.
    kept_at_loss c.args.history.now end (rows_in c.args.rows.now.items) kept _ (stands ∙ ap Some c.in-Lost.is)
