-- Histories that reach the same state, by the algorithm that the setup names.
use Rattle.std.specs.Prelude.{◌≡◌, List, ◌++◌, Result, IfOk, Vec, reverse}
use Rattle.std.specs.Global.{Global}
use Rattle.cdb_agreement.specs.Algorithms.{leader_machine, alpha_machine}
use Rattle.cdb_base.specs.declared.event.Event.{Event}
use Rattle.cdb_base.specs.declared.name.StepId.{StepId}
use Rattle.cdb_base.specs.declared.refusal.Refusal.{Refusal}
use Rattle.cdb_rules.specs.ByRules.{IsInOrder}
use Rattle.cdb_rules.specs.Rules.{Rules}
use Rattle.cdb_rules.specs.RunView.{RunView}
use Rattle.cdb_rules.specs.Runs.{with_event, with_history, removed_by_rollback}
use Rattle.cdb_rules.specs.Step.{fold}
use Rattle.cdb_setup.specs.Parts.{Parts}
use Rattle.cdb_setup.specs.declared.setup.Algorithm.{Algorithm}
use Rattle.cdb_setup.specs.declared.setup.Algorithm.TheVariants.{Leader, Alpha}

abbrev pub ReachSameStateBy : Algorithm → Parts → List Event → List Event → Type 0
ReachSameStateBy Leader setup history other = fold (leader_machine setup) history ≡ fold (leader_machine setup) other
ReachSameStateBy Alpha setup history other = fold (alpha_machine setup) history ≡ fold (alpha_machine setup) other

abbrev pub ReachSameState : Parts → List Event → List Event → Type 0
ReachSameState setup history other = ReachSameStateBy setup.algorithm setup history other

-- of two runs of one setup
abbrev pub AreInSameState : RunView → RunView → Type 0
AreInSameState run other = ReachSameState run.setup run.history other.history

-- ---- back and forth, between runs of one setup

-- the event can be taken now, and leads to the state of that other run
abbrev pub LeadsTo : (Parts → Rules) → RunView → Event → RunView → Type 0
LeadsTo rules run event to = IsInOrder rules (with_event run event) × AreInSameState (with_event run event) to

-- the events, taken one after another, lead there
abbrev pub AllLeadTo : RunView → List Event → RunView → Type 0
AllLeadTo run events to = AreInSameState (with_history run (run.history ++ events)) to

-- what a rollback took back leads back: taken again in order, to the state of the run before
abbrev pub RollbackLeadsBack : RunView → StepId → RunView → Type 0
RollbackLeadsBack run name left = AllLeadTo left (reverse (removed_by_rollback run name)) run

-- the same of the events that it returned, the last first
abbrev pub LeadsBack : {E : Type 0} → RunView → Result (Result (Vec Event Global) Refusal) E → RunView → Type 0
LeadsBack left result run = IfOk result (λ r. IfOk r (λ taken. AllLeadTo left (reverse taken.items) run))
