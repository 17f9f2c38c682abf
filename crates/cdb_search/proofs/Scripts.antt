-- The script of a run in which a goal holds.
use Rattle.std.proofs.Common.{◌≡◌, ◌↔◌, ℕ, List, map, subst, sym}
use Rattle.cdb_base.specs.declared.event.Event.{Event}
use Rattle.cdb_goal.specs.Holds.{Holds}
use Rattle.cdb_goal.specs.declared.goal.Goal.{Goal}
use Rattle.cdb_rules.specs.RunView.{RunView}
use Rattle.cdb_rules.specs.Rules.{Rules}
use Rattle.cdb_search.specs.Shrunk.{HoldsAfter, IsFaultOfShrink}
use Rattle.cdb_base.specs.declared.no_memory.NoMemory.{NoMemory}
use Rattle.cdb_explain.specs.declared.fault.AnswerFault.TheVariants.{Play}
use Rattle.cdb_streams.specs.declared.fault.PlayFault.TheVariants as play
use Rattle.cdb_search.specs.Found.{IsFound, IsScriptTo}
use Rattle.cdb_setup.specs.Format.{Encodes}
use Rattle.cdb_setup.specs.Parts.{Parts}
use Rattle.cdb_slice.specs.Scripts.{PlaysBack, command_for, script_text}

pub is_script : (rules : Rules) (setup : Parts) (goal : Goal) (history events : List Event) (text : List ℕ) → events ≡ history → text ≡ script_text events
    → PlaysBack rules setup history → Holds rules history goal → IsScriptTo rules setup goal text
is_script rules setup goal history events text same is plays holds =
    (events, is, subst (PlaysBack rules setup) (sym same) plays, subst (λ (h : List Event). Holds rules h goal) (sym same) holds)

pub found_so : (rules : Parts → Rules) (json : List ℕ) (goal : Goal) (setup : Parts) → Encodes json setup → (run : RunView) → run.setup ≡ setup
    → (text : List ℕ) → IsScriptTo (rules run.setup) run.setup goal text → IsFound rules json goal text
found_so rules json goal setup encodes run same text is = (run.setup, subst (Encodes json) (sym same) encodes, is)

-- ---- a script made small

-- the script of what stands leaves it
pub same_left : (rules : Rules) (setup : Parts) (goal : Goal) (history : List Event) → PlaysBack rules setup history
    → HoldsAfter rules setup goal (map command_for history) ↔ Holds rules history goal
same_left rules setup goal history plays =
    (λ holds. subst (λ (h : List Event). Holds rules h goal) plays.left holds, λ holds. subst (λ (h : List Event). Holds rules h goal) (sym plays.left) holds)

-- out of memory is a fault of a shrink
pub memory_is_out : (rules : Parts → Rules) (run : RunView) (goal : Goal) (refused : NoMemory) → IsFaultOfShrink rules run goal (Play (play.NoMemory refused))
memory_is_out rules run goal refused = tt
