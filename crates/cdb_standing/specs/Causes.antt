-- The direct causes of an event: of each process the last step on which it depends, where nothing lies between.
use Rattle.std.specs.Prelude.{◌≡◌, ℕ, ◌<◌, ◌≤◌, ◌⊎◌, Bool, cond, nat_eq, List}
use Rattle.std.specs.Prelude.{Option, Some, None, MatchBool, MatchOption, length, slice_get}
use Rattle.std.specs.Option.{option_map}
use Rattle.cdb_base.specs.Positions.{nth}
use Rattle.cdb_base.specs.declared.event.Event.{Event}
use Rattle.cdb_base.specs.declared.event.Event.TheVariants.{Step}
use Rattle.cdb_base.specs.declared.event.Kind.{Kind}
use Rattle.cdb_base.specs.declared.name.StepId.{StepId}
use Rattle.cdb_base.specs.declared.name.StepId.TheVariants as named
use Rattle.cdb_causal.specs.DirectCauses.{ComesBefore, AreDirectCauses}
use Rattle.cdb_causal.specs.Names.{IsNamedAt}
use Rattle.cdb_standing.specs.Accesses.{IsLastBeforeOrNone}
use Rattle.cdb_standing.specs.Dependents.{IsDependent, AreInConflict}
use Rattle.cdb_standing.specs.InOrder.{Has}
use Rattle.cdb_standing.specs.Tables.{row_of, sent_of, history_in, IsEntry}
use Rattle.cdb_standing.specs.declared.tables.Access.{Access}
use Rattle.cdb_standing.specs.declared.tables.Sent.{Sent}
use Rattle.cdb_standing.specs.declared.tables.Tables.{Tables}

-- ---- what is looked up

-- the step of process q that sends the m-th message of process s, by its number
abbrev pub sent_by : Tables → ℕ → ℕ → ℕ → Option ℕ
sent_by t s m q = cond (nat_eq s q) (option_map (λ (it : Sent). it.k) (nth (row_of (sent_of t) s) m)) None

-- the last of a list of accesses before a mark, by the number of its step
abbrev pub IsLastByList : List Access → ℕ → Option ℕ → Type 0
IsLastByList accesses ahead found =
    (last : Option Access) × IsLastBeforeOrNone accesses ahead last
    × (found ≡ option_map (λ (access : Access). access.k) last)

abbrev pub HasAccessBetween : List Access → ℕ → ℕ → Type 0
HasAccessBetween accesses behind ahead =
    (access : Access) × Has accesses access × (behind < access.mark) × (access.mark < ahead)

-- between steps of those kinds, the later one of process p, process s has an access that is in conflict with the
-- earlier one, and with the later one or of its process
abbrev pub HasConflictBetween : Tables → Kind → ℕ → ℕ → Kind → ℕ → ℕ → Type 0
HasConflictBetween t cause behind p kind ahead s =
    (access : Access) × (does : Kind) × IsEntry t s access.k access.mark does
    × (behind < access.mark) × (access.mark < ahead) × AreInConflict cause does × ((s ≡ p) ⊎ AreInConflict does kind)

-- ---- causes

-- the event at the last mark is one on which the effect depends
abbrev pub IsCause : Tables → Event → ℕ → ℕ → Event → Type 0
IsCause t effect ahead mark it = IsDependent t it mark ahead effect

-- it is the last step of process q on which the event depends
pub record IsLastCause (t : Tables) (effect : Event) (ahead q l mark : ℕ) (kind : Kind) : Type 0 where
  pub is : IsCause t effect ahead mark (Step q l kind)
  pub last : (j b : ℕ) (other : Kind) → IsCause t effect ahead b (Step q j other) → b ≤ mark

abbrev pub IsLastCauseOrNone : Tables → Event → ℕ → ℕ → Option ℕ → Type 0
IsLastCauseOrNone t effect ahead q found =
    MatchOption found
    ((j b : ℕ) (other : Kind) → IsCause t effect ahead b (Step q j other) → ⊥)
    (λ l. (mark : ℕ) × (kind : Kind) × IsLastCause t effect ahead q l mark kind)

-- the event lies between: it depends on the cause, and the effect on it
pub record IsBetween (t : Tables) (cause : Event)
    (behind : ℕ) (effect : Event) (ahead mark : ℕ) (it : Event) : Type 0 where
  pub of_cause : IsDependent t cause behind mark it
  pub to_effect : IsCause t effect ahead mark it

abbrev pub HasNone : Tables → Event → ℕ → Event → ℕ → Type 0
HasNone t cause behind effect ahead = (mark : ℕ) (it : Event) → IsBetween t cause behind effect ahead mark it → ⊥

abbrev pub FindsBetween : Tables → Event → ℕ → Event → ℕ → Bool → Type 0
FindsBetween t cause behind effect ahead said =
    MatchBool said ((mark : ℕ) × (it : Event) × IsBetween t cause behind effect ahead mark it)
    (HasNone t cause behind effect ahead)

-- the l-th step of process q is a direct cause
pub record IsDirect (t : Tables) (effect : Event) (ahead q l : ℕ) : Type 0 where
  pub mark : ℕ
  pub kind : Kind
  pub is : IsCause t effect ahead mark (Step q l kind)
  pub nothing_between : HasNone t (Step q l kind) mark effect ahead

abbrev pub step_named : ℕ → ℕ → StepId
step_named q l = named.Step (record { p = q; k = l })

-- the direct cause that is a step of process q
pub record IsDirectOf (t : Tables) (effect : Event) (ahead q : ℕ) (found : Option StepId) : Type 0 where
  pub only : (name : StepId) → found ≡ Some name
      → (l : ℕ) × IsDirect t effect ahead q l × (name ≡ step_named q l)
  pub each : (l : ℕ) → IsDirect t effect ahead q l → found ≡ Some (step_named q l)

-- the direct causes of processes up to one, in order
pub record AreDirect (t : Tables) (effect : Event) (ahead top : ℕ) (names : List StepId) : Type 0 where
  pub only : (k : ℕ) (name : StepId) → slice_get names k ≡ Some name
      → (q : ℕ) × (l : ℕ) × (q ≤ top) × IsDirect t effect ahead q l × (name ≡ step_named q l)
  pub each : (q l : ℕ) → q ≤ top → IsDirect t effect ahead q l
      → (k : ℕ) × (slice_get names k ≡ Some (step_named q l))
  pub in_order : (k l : ℕ) (name other : StepId) → k < l → slice_get names k ≡ Some name
      → slice_get names l ≡ Some other → ComesBefore name other
  pub few : length names ≤ top

-- the direct causes of the event of that name, where it stands
abbrev pub AreDirectByName : Tables → StepId → List StepId → Type 0
AreDirectByName t name names = (at : ℕ) → IsNamedAt (history_in t) at name → AreDirectCauses (history_in t) at names
