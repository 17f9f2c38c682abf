use Rattle.std.proofs.Common.{◌≡◌, ◌↔◌, IfOk, IsOk, IsTrue, OnErr}
use Rattle.cdb_rules.specs.Rules.{Rules}
use Rattle.cdb_rules.specs.RunView.{RunView}
use Rattle.cdb_any_run.proofs.Named.{in_leader, in_alpha}
use Rattle.cdb_any_run.proofs.any.AnyRun.again.Goals as goal
use Rattle.cdb_any_run.proofs.any.AnyRun.again.Goals.{in-Leader, in-Alpha}

pub returns-clause-returns : goal.returns-clause-returns
returns-clause-returns c =
    let Holds = λ (rules : Rules) (run : RunView). IfOk c.match-self.result (λ r. r ≡ rules.again run.history c.args.event.now) in
    elim c.match-self.branch [
      | in-Leader w ↦ in_leader Holds c.self.invariant c.self.view_is w.in-Leader.is (rw w.result-is w.again.ensures.returns)
      | in-Alpha w ↦ in_alpha Holds c.self.invariant c.self.view_is w.in-Alpha.is (rw w.result-is w.again-in-Alpha.ensures.returns)
    ]

pub returns-clause-taken : goal.returns-clause-taken
returns-clause-taken c =
    let Holds = λ (rules : Rules) (run : RunView). IfOk c.match-self.result (λ r. IsOk r ↔ IsTrue (rules.enabled run.history c.args.event.now)) in
    elim c.match-self.branch [
      | in-Leader w ↦ in_leader Holds c.self.invariant c.self.view_is w.in-Leader.is (rw w.result-is w.again.ensures.taken)
      | in-Alpha w ↦ in_alpha Holds c.self.invariant c.self.view_is w.in-Alpha.is (rw w.result-is w.again-in-Alpha.ensures.taken)
    ]

pub returns-clause-memory : goal.returns-clause-memory
returns-clause-memory c =
    let Holds = λ (rules : Rules) (run : RunView). OnErr c.match-self.result (IsOk (rules.again run.history c.args.event.now)) in
    elim c.match-self.branch [
      | in-Leader w ↦ in_leader Holds c.self.invariant c.self.view_is w.in-Leader.is (rw w.result-is w.again.ensures.memory)
      | in-Alpha w ↦ in_alpha Holds c.self.invariant c.self.view_is w.in-Alpha.is (rw w.result-is w.again-in-Alpha.ensures.memory)
    ]
