-- A standing event by the name that is given.
use Rattle.std.specs.Prelude.{◌≡◌, Result, Err, MatchResult}
use Rattle.cdb_base.specs.declared.name.StepId.{StepId}
use Rattle.cdb_base.specs.declared.refusal.Refusal.{Refusal}
use Rattle.cdb_rules.specs.RunView.{RunView}
use Rattle.cdb_rules.specs.Runs.{CanUndo, undo_in}
use Rattle.cdb_rules.specs.Undo.{event_named}
use Rattle.cdb_standing.specs.Moves.{IsStandingName}

-- why no event of the run is the one of that name
abbrev pub IsNotFound : RunView → StepId → Refusal → Type 0
IsNotFound run name why = event_named run.setup.processes run.history name ≡ Err why

-- the result is the name, of which an event stands, or why none does
abbrev pub IsFound : RunView → StepId → Result StepId Refusal → Type 0
IsFound run name result = MatchResult result (λ it. (it ≡ name) × IsStandingName run.history name) (IsNotFound run name)

-- the result is the name, of an event that can be undone, or why none can
abbrev pub IsFoundFree : RunView → StepId → Result StepId Refusal → Type 0
IsFoundFree run name result =
    MatchResult result (λ it. (it ≡ name) × CanUndo run name) (λ why. undo_in run name ≡ Err why)
