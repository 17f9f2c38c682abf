use Rattle.std.proofs.Common.{◌≡◌, IfOk, IsOk, OnErr}
use Rattle.cdb_rules.specs.Auto.{first_step_of}
use Rattle.cdb_rules.specs.Rules.{Rules}
use Rattle.cdb_rules.specs.RunView.{RunView}
use Rattle.cdb_any_run.proofs.Named.{in_leader, in_alpha}
use Rattle.cdb_any_run.proofs.any.AnyRun.step_first.Goals as goal
use Rattle.cdb_any_run.proofs.any.AnyRun.step_first.Goals.{in-Leader, in-Alpha}

pub returns-clause-returns : goal.returns-clause-returns
returns-clause-returns c =
    let Holds = λ (rules : Rules) (run : RunView). IfOk c.match-self.result (λ r. r ≡ first_step_of rules run.history c.args.p) in
    elim c.match-self.branch [
      | in-Leader w ↦ in_leader Holds c.self.invariant c.self.view_is w.in-Leader.is (rw w.result-is w.step_first.ensures.returns)
      | in-Alpha w ↦ in_alpha Holds c.self.invariant c.self.view_is w.in-Alpha.is (rw w.result-is w.step_first-in-Alpha.ensures.returns)
    ]

pub returns-clause-memory : goal.returns-clause-memory
returns-clause-memory c =
    let Holds = λ (rules : Rules) (run : RunView). OnErr c.match-self.result (IsOk (first_step_of rules run.history c.args.p)) in
    elim c.match-self.branch [
      | in-Leader w ↦ in_leader Holds c.self.invariant c.self.view_is w.in-Leader.is (rw w.result-is w.step_first.ensures.memory)
      | in-Alpha w ↦ in_alpha Holds c.self.invariant c.self.view_is w.in-Alpha.is (rw w.result-is w.step_first-in-Alpha.ensures.memory)
    ]
