-- A script made small.
use Rattle.std.specs.Prelude.{◌≡◌, ℕ, ◌≤◌, List, [], ◌∷◌, length, map}
use Rattle.cdb_causal.specs.Rollback.{without}
use Rattle.cdb_commands.specs.declared.command.Command.{Command}
use Rattle.cdb_control.specs.Journal.{replay}
use Rattle.cdb_control.specs.OneSeat.{journal_of}
use Rattle.cdb_goal.specs.Holds.{Holds}
use Rattle.cdb_goal.specs.declared.goal.Goal.{Goal}
use Rattle.cdb_rules.specs.RunView.{RunView}
use Rattle.cdb_rules.specs.Rules.{Rules}
use Rattle.cdb_explain.specs.declared.fault.AnswerFault.{AnswerFault}
use Rattle.cdb_explain.specs.declared.fault.AnswerFault.TheVariants.{DoesNotHold, Play}
use Rattle.cdb_setup.specs.Parts.{Parts}
use Rattle.cdb_slice.specs.Scripts.{command_for, lines_text}
use Rattle.cdb_streams.specs.declared.fault.PlayFault.TheVariants as play

-- some of a list, in their order
pub data IsSublist {A : Type 0} : List A → List A → Type 0 where
  none : IsSublist [] []
  kept : {x : A} {some all : List A} → IsSublist some all → IsSublist (x ∷ some) (x ∷ all)
  left_out : {x : A} {some all : List A} → IsSublist some all → IsSublist some (x ∷ all)

-- The goal holds of the run that the commands leave: played from the start, where those that are refused change
-- nothing.
abbrev pub HoldsAfter : Rules → Parts → Goal → List Command → Type 0
HoldsAfter rules setup goal commands = Holds rules (replay rules setup 1 (journal_of commands)).history goal

-- leaving out any one of the commands, and what is refused then, loses the goal
abbrev pub CannotSpareOne : Rules → Parts → Goal → List Command → Type 0
CannotSpareOne rules setup goal commands =
    (i : ℕ) → 1 ≤ i → i ≤ length commands → HoldsAfter rules setup goal (without commands i) → ⊥

-- some of the commands, in their order, after which the goal holds, and of which none can be left out
pub record IsShrunk (rules : Rules) (setup : Parts) (goal : Goal) (commands lines : List Command) : Type 0 where
  pub some : IsSublist lines commands
  pub holds : HoldsAfter rules setup goal lines
  pub least : CannotSpareOne rules setup goal lines

-- the text has such lines of a script of what stands in the run
abbrev pub IsShrunkText : (Parts → Rules) → RunView → Goal → List ℕ → Type 0
IsShrunkText rules run goal text =
    (lines : List Command) × IsShrunk (rules run.setup) run.setup goal (map command_for run.history) lines
    × (text ≡ lines_text lines)

-- why there is none: the goal doesn't hold of the run, or an allocation failed
abbrev pub IsFaultOfShrink : (Parts → Rules) → RunView → Goal → AnswerFault → Type 0
IsFaultOfShrink rules run goal DoesNotHold = Holds (rules run.setup) run.history goal → ⊥
IsFaultOfShrink rules run goal (Play (play.NoMemory refused)) = Unit {0}
IsFaultOfShrink rules run goal fault = ⊥
