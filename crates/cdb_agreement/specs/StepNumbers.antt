-- The steps and the sends of a process in a history, and their numbers.
use Rattle.std.specs.Prelude.{◌≡◌, ℕ, Bool, false, ◌==◌, ◌↔◌, List, Some, filter}
use Rattle.cdb_base.specs.Event.{event_name, is_step_of}
use Rattle.cdb_base.specs.Positions.{nth}
use Rattle.cdb_base.specs.declared.event.Event.{Event}
use Rattle.cdb_base.specs.declared.event.Event.TheVariants.{Step}
use Rattle.cdb_base.specs.declared.event.Kind.TheVariants.{Send}
use Rattle.cdb_causal.specs.Exchange.{IsIn}
use Rattle.cdb_rules.specs.Runs.{step_name}

-- the steps of process p, in order
abbrev pub steps_by : ℕ → List Event → List Event
steps_by p history = filter (is_step_of p) history

abbrev pub is_send_by : ℕ → Event → Bool
is_send_by p (Step q k (Send m)) = q == p
is_send_by p event = false

-- its sends, in order
abbrev pub sends_by : ℕ → List Event → List Event
sends_by p history = filter (is_send_by p) history

-- the k-th step of process p is the event that is named so
abbrev pub AreStepsNumbered : List Event → Type 0
AreStepsNumbered history =
    (p k : ℕ) (event : Event) → (nth (steps_by p history) k ≡ Some event)
    ↔ (IsIn event history × (event_name event ≡ step_name p k))

-- the m-th send of process p sends the message that is named so
abbrev pub AreSendsNumbered : List Event → Type 0
AreSendsNumbered history =
    (p m : ℕ) (event : Event) → (nth (sends_by p history) m ≡ Some event)
    ↔ (IsIn event history × ((k : ℕ) × (event ≡ Step p k (Send m))))
