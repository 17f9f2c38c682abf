-- What a search finds.
use Rattle.std.specs.Prelude.{◌≡◌, ℕ, ◌≤◌, List, length}
use Rattle.cdb_base.specs.declared.event.Event.{Event}
use Rattle.cdb_goal.specs.Holds.{Holds}
use Rattle.cdb_goal.specs.declared.goal.Goal.{Goal}
use Rattle.cdb_rules.specs.RunView.{RunView}
use Rattle.cdb_rules.specs.Rules.{Rules}
use Rattle.cdb_explain.specs.declared.fault.AnswerFault.{AnswerFault}
use Rattle.cdb_explain.specs.declared.fault.AnswerFault.TheVariants.{NotFound, Play}
use Rattle.cdb_setup.specs.Format.{Encodes, longest}
use Rattle.cdb_setup.specs.Order.{IsFirstFault}
use Rattle.cdb_setup.specs.Parts.{Parts}
use Rattle.cdb_slice.specs.Scripts.{PlaysBack, script_text}
use Rattle.cdb_streams.specs.Faults.{IsSetup}
use Rattle.cdb_streams.specs.declared.fault.PlayFault.TheVariants as play

-- a run of this setup in which the goal holds
abbrev pub IsReached : (Parts → Rules) → Parts → Goal → RunView → Type 0
IsReached rules setup goal run = (run.setup ≡ setup) × Holds (rules run.setup) run.history goal

-- The text is a script of events; played from the start each line is answered with its event, and in the end just these
-- events stand, of which the goal holds.
abbrev pub IsScriptTo : Rules → Parts → Goal → List ℕ → Type 0
IsScriptTo rules setup goal text =
    (events : List Event) × (text ≡ script_text events) × PlaysBack rules setup events × Holds rules events goal

-- the same on the setup that a text of JSON encodes
abbrev pub IsFound : (Parts → Rules) → List ℕ → Goal → List ℕ → Type 0
IsFound rules json goal text = (setup : Parts) × Encodes json setup × IsScriptTo (rules setup) setup goal text

-- Why nothing was found. A fault of the setup comes before all others.
abbrev pub IsFaultOfSearch : List ℕ → ℕ → AnswerFault → Type 0
IsFaultOfSearch json walks (NotFound its) = IsSetup json × (its ≡ walks)
IsFaultOfSearch json walks (Play (play.Setup fault)) = IsFirstFault fault json
IsFaultOfSearch json walks (Play (play.NoMemory refused)) = length json ≤ longest
IsFaultOfSearch json walks fault = ⊥
