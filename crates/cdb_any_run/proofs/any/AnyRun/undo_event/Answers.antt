use Rattle.std.proofs.Common.{◌↔◌, IsOk}
use Rattle.cdb_rules.specs.EventRefs.{name_given}
use Rattle.cdb_rules.specs.Runs.{CanUndo}
use Rattle.cdb_rules.specs.Rules.{Rules}
use Rattle.cdb_rules.specs.RunView.{RunView}
use Rattle.cdb_any_run.proofs.Named.{in_leader, in_alpha}
use Rattle.cdb_any_run.proofs.any.AnyRun.undo_event.Goals as goal
use Rattle.cdb_any_run.proofs.any.AnyRun.undo_event.Goals.{in-Leader, in-Alpha}

pub returns-clause-free : goal.returns-clause-free
returns-clause-free c =
    let Holds = λ (rules : Rules) (run : RunView). IsOk c.match-self.result ↔ CanUndo run (name_given c.args.event) in
    elim c.match-self.branch [
      | in-Leader w ↦ in_leader Holds c.self.invariant c.self.view_is w.in-Leader.is (rw w.result-is w.undo_event.ensures.free)
      | in-Alpha w ↦ in_alpha Holds c.self.invariant c.self.view_is w.in-Alpha.is (rw w.result-is w.undo_event-in-Alpha.ensures.free)
    ]
