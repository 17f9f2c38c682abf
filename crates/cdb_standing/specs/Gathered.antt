-- The events that numbers cut off, as they are gathered: of each process its steps from a number on, each with the
-- losses of what it sent.
use Rattle.std.specs.Prelude.{◌≡◌, ◌≢◌, ◌↔◌, ℕ, ◌+◌, ◌-◌, ◌<◌, ◌≤◌, List, [], ◌++◌}
use Rattle.std.specs.Prelude.{Option, MatchOption, length}
use Rattle.std.specs.Option.{option_map_or}
use Rattle.cdb_base.specs.Positions.{nth}
use Rattle.cdb_base.specs.declared.event.Event.{Event}
use Rattle.cdb_base.specs.declared.event.Event.TheVariants.{Step, Lost}
use Rattle.cdb_base.specs.declared.event.Kind.{Kind}
use Rattle.cdb_base.specs.declared.event.Kind.TheVariants.{Send}
use Rattle.cdb_standing.specs.Cuts.{cut_of, IsCut}
use Rattle.cdb_standing.specs.InOrder.{Marked, Has, IsPairwise, IsRising, events_of}
use Rattle.cdb_standing.specs.Tables.{row_of, steps_of, sent_of, step_at, losses_to, entry_of, IsEntry}
use Rattle.cdb_standing.specs.Tables.{IsMessage, Stands}
use Rattle.cdb_standing.specs.declared.order.Next.{Next}
use Rattle.cdb_standing.specs.declared.tables.Entry.{Entry}
use Rattle.cdb_standing.specs.declared.tables.Tables.{Tables}

-- the losses of the copies of what a step of process p sent
abbrev pub losses_of : Tables → ℕ → Kind → List Marked
losses_of t p (Send m) = option_map_or (losses_to p m) (nth (row_of (sent_of t) p) m) []
losses_of t p _ = []

-- a step with these
abbrev pub of_step : Tables → ℕ → ℕ → Entry → List Marked
of_step t p k entry = step_at p k entry ++ losses_of t p entry.kind

-- the event is the k-th step of process p, or the loss of a copy of what that step sent
abbrev pub IsOf : Tables → ℕ → ℕ → Event → Type 0
IsOf t p k (Step q l kind) = (q ≡ p) × (l ≡ k)
IsOf t p k (Lost copy) = ((copy.msg).s ≡ p) × IsMessage (sent_of t) p (copy.msg).m k

abbrev pub HasOtherEvent : Marked → Marked → Type 0
HasOtherEvent x y = x.event ≢ y.event

-- each event that the numbers cut off is there once
pub record AreGathered (cuts : List ℕ) (t : Tables) (found : List Marked) : Type 0 where
  pub same : (x : Marked) → Has found x ↔ (Stands t x.mark x.event × IsCut t cuts x.event)
  pub apart : IsPairwise HasOtherEvent found

-- the step is the next of its process
pub record IsNext (t : Tables) (from : List ℕ) (next : Next) : Type 0 where
  pub few : next.i < 9
  pub number : next.k ≡ cut_of from (next.i + 1) - 1 + 1
  pub at : (kind : Kind) × IsEntry t (next.i + 1) next.k next.mark kind

-- no step of the process at that index is left
abbrev pub IsDoneWith : Tables → List ℕ → ℕ → Type 0
IsDoneWith t from i = length (row_of (steps_of t) (i + 1)) ≤ cut_of from (i + 1) - 1

abbrev pub IsNextOrNone : Tables → List ℕ → ℕ → Option Next → Type 0
IsNextOrNone t from i found = MatchOption found (IsDoneWith t from i) (λ next. IsNext t from next × (next.i ≡ i))

abbrev pub NoneIsLeft : Tables → List ℕ → ℕ → ℕ → Type 0
NoneIsLeft t from start end = (i : ℕ) → start ≤ i → i < end → IsDoneWith t from i

-- it was added, with the losses of what it sent
pub record IsGathered (t : Tables) (next : Next) (old new : List Marked) : Type 0 where
  pub kind : Kind
  pub at : IsEntry t (next.i + 1) next.k next.mark kind
  pub more : new ≡ old ++ of_step t (next.i + 1) next.k (entry_of next.mark kind)

-- the events that the numbers cut off, in the order of their marks
pub record AreInOrder (cuts : List ℕ) (t : Tables) (events : List Event) : Type 0 where
  pub marked : List Marked
  pub rising : IsRising marked
  pub same : (x : Marked) → Has marked x ↔ (Stands t x.mark x.event × IsCut t cuts x.event)
  pub are : events ≡ events_of marked
