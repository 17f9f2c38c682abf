-- Where the entries of a page lead, followed one after another as its script does.
use Rattle.std.specs.Prelude.{◌≡◌, ℕ, List, [], ◌∷◌, ◌++◌, Contains, Option, Some, None, Ok, Err}
use Rattle.cdb_agreement.specs.Algorithms.{leader_machine, alpha_machine}
use Rattle.cdb_base.specs.Event.{event_name}
use Rattle.cdb_base.specs.Positions.{nth}
use Rattle.cdb_base.specs.declared.event.Event.{Event}
use Rattle.cdb_base.specs.declared.refusal.Refusal.TheVariants.{NeededBy}
use Rattle.cdb_rules.specs.RunView.{RunView}
use Rattle.cdb_rules.specs.Runs.{result_of_undo}
use Rattle.cdb_setup.specs.declared.setup.Algorithm.{Algorithm}
use Rattle.cdb_setup.specs.declared.setup.Algorithm.TheVariants.{Leader, Alpha}
use Rattle.cdb_trail.specs.AlphaFlow.{alpha_flows}
use Rattle.cdb_trail.specs.LeaderFlow.{leader_flows}
use Rattle.cdb_trail.specs.Trails.{IsTrail, IsTrailOf}
use Rattle.cdb_trail.specs.declared.origins.Origin.TheVariants.{Step, Input}
use Rattle.cdb_page.specs.declared.entries.Entry.{Entry}

-- the positions that are reached from one: itself, and with each position those that its entry lists
pub data IsReached (listed : Entry → List ℕ) (entries : List Entry) (from : ℕ) : ℕ → Type 0 where
  itself : IsReached listed entries from from
  onward : {at other : ℕ} {entry : Entry} → IsReached listed entries from at
      → nth entries at ≡ Some entry → Contains (listed entry) other → IsReached listed entries from other

-- what an entry lists
abbrev pub its_causes : Entry → List ℕ
its_causes entry = entry.causes.items

abbrev pub its_dependents : Entry → List ℕ
its_dependents entry = entry.dependents.items

-- the positions along which the origins lead back from one, the last, to the input of process q
pub data IsTraced (entries : List Entry) (q : ℕ) : ℕ → List ℕ → Type 0 where
  begins : {at : ℕ} {entry : Entry} → nth entries at ≡ Some entry
      → entry.origin ≡ Some (Input q) → IsTraced entries q at (at ∷ [])
  goes_on : {before at : ℕ} {entry : Entry} {trail : List ℕ} → IsTraced entries q before trail
      → nth entries at ≡ Some entry → entry.origin ≡ Some (Step before)
      → IsTraced entries q at (trail ++ at ∷ [])

-- a trail from the input of process q to that position, by the algorithm of the run
abbrev pub IsTrailOfRunBy : Algorithm → RunView → ℕ → ℕ → List ℕ → Type 0
IsTrailOfRunBy Leader run = IsTrail (leader_machine run.setup) leader_flows run.history
IsTrailOfRunBy Alpha run = IsTrail (alpha_machine run.setup) alpha_flows run.history

abbrev pub IsTrailOfRun : RunView → ℕ → ℕ → List ℕ → Type 0
IsTrailOfRun run = IsTrailOfRunBy run.setup.algorithm run

-- the trail of the value v
abbrev pub IsTrailOfValueBy : Algorithm → RunView → ℕ → ℕ → ℕ → List ℕ → Type 0
IsTrailOfValueBy Leader run = IsTrailOf (leader_machine run.setup) leader_flows run.setup.inputs run.history
IsTrailOfValueBy Alpha run = IsTrailOf (alpha_machine run.setup) alpha_flows run.setup.inputs run.history

abbrev pub IsTrailOfValue : RunView → ℕ → ℕ → ℕ → List ℕ → Type 0
IsTrailOfValue run = IsTrailOfValueBy run.setup.algorithm run

-- undo of the event is refused, needed by the event at that position; or is granted, where there is none
abbrev pub AnswersUndo : RunView → Event → Option ℕ → Type 0
AnswersUndo run event None = result_of_undo run (event_name event) ≡ Ok event
AnswersUndo run event (Some needed) =
    (first : Event) × (nth run.history needed ≡ Some first)
    × (result_of_undo run (event_name event) ≡ Err (NeededBy (event_name first)))
