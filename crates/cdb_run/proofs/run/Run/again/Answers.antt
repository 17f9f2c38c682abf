use Rattle.std.proofs.Common.{◌∙◌}
use Rattle.std.proofs.lemmas.Result.{IfOk-weaker}
use Rattle.cdb_run.proofs.Views.{again_ok, again_next}
use Rattle.cdb_run.proofs.run.Run.again.Goals as goal

pub take_planned-requires : goal.take_planned-requires
take_planned-requires g c =
    rw c.plan_again-planned.ensures (again_next g.P.Process.table c.args.self.now c.proper.ensures c.args.event.now c.requires)

pub returns-clause-taken : goal.returns-clause-taken
returns-clause-taken g c =
    IfOk-weaker c.take_planned.result _ _
    (λ r is.
    let same = is ∙ c.plan_again-planned.ensures in
    rw same (again_ok g.P.Process.table c.args.self.now c.proper.ensures c.args.event.now c.requires))
    c.take_planned.ensures.returns
