use Rattle.std.proofs.Common.{◌≡◌, IfOk, IsOk, OnErr}
use Rattle.cdb_rules.specs.Rules.{Rules}
use Rattle.cdb_rules.specs.RunView.{RunView}
use Rattle.cdb_any_run.proofs.Named.{in_leader, in_alpha}
use Rattle.cdb_any_run.proofs.any.AnyRun.step.Goals as goal
use Rattle.cdb_any_run.proofs.any.AnyRun.step.Goals.{in-Leader, in-Alpha}

pub returns-clause-returns : goal.returns-clause-returns
returns-clause-returns c =
    let Holds = λ (rules : Rules) (run : RunView). IfOk c.match-self.result (λ r. r ≡ rules.step run.history c.args.p c.args.act) in
    elim c.match-self.branch [
      | in-Leader w ↦ in_leader Holds c.self.invariant c.self.view_is w.in-Leader.is (rw w.result-is w.step.ensures.returns)
      | in-Alpha w ↦ in_alpha Holds c.self.invariant c.self.view_is w.in-Alpha.is (rw w.result-is w.step-in-Alpha.ensures.returns)
    ]

pub returns-clause-memory : goal.returns-clause-memory
returns-clause-memory c =
    let Holds = λ (rules : Rules) (run : RunView). OnErr c.match-self.result (IsOk (rules.step run.history c.args.p c.args.act)) in
    elim c.match-self.branch [
      | in-Leader w ↦ in_leader Holds c.self.invariant c.self.view_is w.in-Leader.is (rw w.result-is w.step.ensures.memory)
      | in-Alpha w ↦ in_alpha Holds c.self.invariant c.self.view_is w.in-Alpha.is (rw w.result-is w.step-in-Alpha.ensures.memory)
    ]
