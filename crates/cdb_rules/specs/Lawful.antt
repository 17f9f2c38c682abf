-- What the rules of a run keep to.
use Rattle.std.specs.Prelude.{◌≡◌, ℕ, true, List, [], ◌∷◌, ◌++◌, Some, Result, Ok, IsTrue}
use Rattle.cdb_base.specs.Event.{event_name}
use Rattle.cdb_base.specs.Positions.{nth}
use Rattle.cdb_base.specs.declared.act.Act.{Act}
use Rattle.cdb_base.specs.declared.event.Event.{Event}
use Rattle.cdb_base.specs.declared.name.CopyName.{CopyName}
use Rattle.cdb_base.specs.declared.name.MsgName.{MsgName}
use Rattle.cdb_base.specs.declared.event.Event.TheVariants.{Step, Lost}
use Rattle.cdb_base.specs.declared.refusal.Refusal.{Refusal}
use Rattle.cdb_causal.specs.Causality.{IsFree}
use Rattle.cdb_causal.specs.Dependence.{depends}
use Rattle.cdb_causal.specs.Exchange.{IsExchanged}
use Rattle.cdb_causal.specs.StandingEvents.{IsStanding}
use Rattle.cdb_rules.specs.Agreement.{AllAgree, AreProposed, HasMajorityIfNeeded}
use Rattle.cdb_rules.specs.Refusals.{act_for, IsOfRun}
use Rattle.cdb_rules.specs.Rules.{Rules, Shown}
use Rattle.cdb_rules.specs.Step.{is_among}
use Rattle.cdb_rules.specs.Undo.{IsEventNamed}
use Rattle.cdb_setup.specs.Parts.{Parts}

-- Processes of the run alone are shown and take steps; what is taken is an event of the run, and an undone event is
-- taken as it was.
pub record AreLawful (rules : Rules) (setup : Parts) : Type 0 where
  pub shown : (history : List Event) (p : ℕ) (it : Shown)
      → rules.process history p ≡ Some it → is_among setup.processes p ≡ true
  pub among : (history : List Event) (p : ℕ) (act : Act) (event : Event)
      → rules.step history p act ≡ Ok event → is_among setup.processes p ≡ true
  pub step : (history : List Event) (p : ℕ) (act : Act) (event : Event)
      → rules.step history p act ≡ Ok event → IsOfRun setup event
  pub lose : (history : List Event) (name : MsgName) (p : ℕ) (event : Event)
      → rules.lose history name p ≡ Ok event → IsOfRun setup event
  pub again : (history : List Event) (event taken : Event) → rules.again history event ≡ Ok taken → taken ≡ event

-- what an event is taken by: a step by its act, a loss by that of its copy
abbrev pub taken_by : Rules → List Event → Event → Result Event Refusal
taken_by rules history (Step p k kind) = rules.step history p (act_for kind)
taken_by rules history (Lost copy) = rules.lose history copy.msg copy.to

-- the same is shown of both
abbrev pub ShowTheSame : Rules → List Event → List Event → Type 0
ShowTheSame rules history other =
    ((p : ℕ) → rules.process history p ≡ rules.process other p) × (rules.mail history ≡ rules.mail other)
    × (rules.registers history ≡ rules.registers other) × (rules.decisions history ≡ rules.decisions other)

-- The rules keep valid histories, the state that they reach, agreement and validity. SameState says of two histories
-- that they reach one state.
pub record KeepHistories (rules : Rules) (SameState : List Event → List Event → Type 0) (setup : Parts) : Type 0 where
  -- the history of no event is valid, and so is each beginning of a valid one
  pub nothing : IsTrue (rules.valid [])
  pub beginning : (history more : List Event) → IsTrue (rules.valid (history ++ more)) → IsTrue (rules.valid history)
  -- what is taken after a valid history leaves a valid one
  pub step : (history : List Event) → IsTrue (rules.valid history) → (p : ℕ) (act : Act) (event : Event)
      → rules.step history p act ≡ Ok event → IsTrue (rules.valid (history ++ event ∷ []))
  pub lose : (history : List Event) → IsTrue (rules.valid history) → (name : MsgName) (p : ℕ) (event : Event)
      → rules.lose history name p ≡ Ok event → IsTrue (rules.valid (history ++ event ∷ []))
  pub again : (history : List Event) → IsTrue (rules.valid history) → (event : Event) → IsOfRun setup event
      → rules.again history event ≡ Ok event → IsTrue (rules.valid (history ++ event ∷ []))
  -- the last event of a valid history, once undone, is taken again
  pub last_again : (history : List Event) (event : Event) → IsTrue (rules.valid (history ++ event ∷ []))
      → rules.again history event ≡ Ok event
  -- it is what its act takes, or its loss
  pub last_taken : (history : List Event) (event : Event) → IsTrue (rules.valid (history ++ event ∷ []))
      → taken_by rules history event ≡ Ok event
  -- it is one of a run of the setup, and a valid history is one that look-ups over histories ask for
  pub of_run : (history : List Event) (event : Event)
      → IsTrue (rules.valid (history ++ event ∷ [])) → IsOfRun setup event
  pub standing : (history : List Event) → IsTrue (rules.valid history) → IsStanding history
  -- events that do not depend on each other may stand in either order
  pub exchanged : (history other : List Event) → IsExchanged depends history other → IsTrue (rules.valid history)
      → IsTrue (rules.valid other)
  pub same_state : (history other : List Event) → IsExchanged depends history other → SameState other history
  -- histories that reach one state are equal up to exchange, and what is shown is of the state alone
  pub exchanges : (history other : List Event) → IsTrue (rules.valid history)
      → SameState history other → IsExchanged depends history other
  pub shown : (history other : List Event) → SameState history other → ShowTheSame rules history other
  -- each event of a valid history is the one of its name, and no event depends on a loss
  pub named : (history : List Event) → IsTrue (rules.valid history)
      → (at : ℕ) (event : Event) → nth history at ≡ Some event
      → IsEventNamed setup.processes history (event_name event) at event
  pub losses_free : (history : List Event) → IsTrue (rules.valid history) → (at : ℕ) (copy : CopyName)
      → nth history at ≡ Some (Lost copy) → IsFree depends history at
  -- no two decisions that a valid history shows differ
  pub agreement : HasMajorityIfNeeded setup → (history : List Event) → IsTrue (rules.valid history)
      → AllAgree (rules.decisions history)
  -- each decision that a valid history shows was the input of a process
  pub validity : (history : List Event) → IsTrue (rules.valid history) → AreProposed setup (rules.decisions history)
