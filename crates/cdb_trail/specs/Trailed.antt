-- What is found of the trail to a step.
use Rattle.std.specs.Prelude.{◌≡◌, ℕ, List, length, Contains, Bool, Option, Some, None, ◌↔◌}
use Rattle.cdb_agreement.specs.Algorithms.{leader_machine, alpha_machine}
use Rattle.cdb_rules.specs.Flags.{IsFlagged}
use Rattle.cdb_rules.specs.RunView.{RunView}
use Rattle.cdb_rules.specs.State.{Machine}
use Rattle.cdb_setup.specs.declared.setup.Algorithm.{Algorithm}
use Rattle.cdb_setup.specs.declared.setup.Algorithm.TheVariants.{Leader, Alpha}
use Rattle.cdb_trail.specs.AlphaFlow.{alpha_flows}
use Rattle.cdb_trail.specs.Flow.{Flows}
use Rattle.cdb_trail.specs.LeaderFlow.{leader_flows}
use Rattle.cdb_trail.specs.Trails.{IsTrailOf, TakesValue}
use Rattle.cdb_trail.specs.declared.trail.Trail.{Trail}

-- of the positions of a history those on the trail are flagged
abbrev pub FlagsTrail : ℕ → List ℕ → List Bool → Type 0
FlagsTrail events trail flags =
    (length flags ≡ events) × ((position : ℕ) → IsFlagged flags position ↔ Contains trail position)

-- a trail leads to the step at that position, and this is its proposer, its value and its flags; or the step takes no
-- value
abbrev pub IsTrailFound : {L S : Type 0} → Machine L → Flows L S → RunView → ℕ → Option Trail → Type 0
IsTrailFound machine flows run position (Some found) =
    (trail : List ℕ) × IsTrailOf machine flows run.setup.inputs run.history found.proposer found.value position trail
    × FlagsTrail (length run.history) trail found.flags.items
IsTrailFound machine flows run position None = (v : ℕ) → TakesValue machine flows run.history v position → ⊥

-- the same, by the algorithm of the run
abbrev pub IsTrailBy : Algorithm → RunView → ℕ → Option Trail → Type 0
IsTrailBy Leader run = IsTrailFound (leader_machine run.setup) leader_flows run
IsTrailBy Alpha run = IsTrailFound (alpha_machine run.setup) alpha_flows run

abbrev pub IsTrailIn : RunView → ℕ → Option Trail → Type 0
IsTrailIn run = IsTrailBy run.setup.algorithm run
