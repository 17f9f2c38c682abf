-- What is undone, and why it is not.
use Rattle.std.specs.Prelude.{◌≡◌, ℕ, suc, Bool, true, false, ◌&&◌, ◌==◌, List, [], ◌∷◌, ◌++◌, Option, option_map}
use Rattle.std.specs.Prelude.{Some, Result, Ok, Err, find, filter, map, reverse, flat_map, length, if◌then◌else◌}
use Rattle.std.specs.List.{position}
use Rattle.std.specs.Option.{option_map_or}
use Rattle.cdb_base.specs.Event.{event_name, is_step_of}
use Rattle.cdb_base.specs.Positions.{nth}
use Rattle.cdb_base.specs.Processes.{all_processes}
use Rattle.cdb_base.specs.declared.event.Event.{Event}
use Rattle.cdb_base.specs.declared.event.Event.TheVariants.{Step, Lost}
use Rattle.cdb_base.specs.declared.name.StepId.{StepId}
use Rattle.cdb_base.specs.declared.name.StepId.TheVariants as named
use Rattle.cdb_base.specs.declared.refusal.Refusal.{Refusal}
use Rattle.cdb_base.specs.declared.refusal.Refusal.TheVariants as refusal
use Rattle.cdb_causal.specs.Causality.{IsFree}
use Rattle.cdb_causal.specs.Dependence.{depends}
use Rattle.cdb_causal.specs.DirectDependents.{is_direct}
use Rattle.cdb_causal.specs.Names.{IsNamedAt, IsPositionOf}
use Rattle.cdb_causal.specs.Rollback.{events_before, events_behind, without, rolled_back, remaining}
use Rattle.cdb_rules.specs.Step.{is_among}

-- whether the event has the name
abbrev pub is_named : StepId → Event → Bool
is_named (named.Step name) (Step p k kind) = (p == name.p) && (k == name.k)
is_named (named.Lost copy) (Lost other) =
    (other.msg.s == copy.msg.s) && (other.msg.m == copy.msg.m) && (other.to == copy.to)
is_named name event = false

-- the processes that the name names are among 1 to n
abbrev pub names_processes : ℕ → StepId → Bool
names_processes n (named.Step name) = is_among n name.p
names_processes n (named.Lost copy) = is_among n copy.msg.s && is_among n copy.to

-- Among n processes this event, at that position, is the one of the name.
pub record IsEventNamed (n : ℕ) (history : List Event) (name : StepId) (position : ℕ) (event : Event) : Type 0 where
  pub among : names_processes n name ≡ true
  pub stands : nth history position ≡ Some event
  pub its_position : IsPositionOf history name position

-- A standing event, where it stands, and what stood before and came later.
pub record Found : Type 0 where
  pub event : Event
  pub position : ℕ
  pub earlier : List Event
  pub later : List Event

-- what stands at that position, if something does
abbrev pub found_at : List Event → ℕ → Result Found Refusal
found_at history position =
    option_map_or (λ event. Ok (record {
      event = event;
      position = position;
      earlier =
          events_before history position;
      later = events_behind history position;
    }))
    (nth history position) (Err refusal.NoStep)

-- where the event of that name stands, if one does
abbrev pub position_of : StepId → List Event → Option ℕ
position_of name history = option_map suc (position (is_named name) history)

-- the standing event of that name; the checks are that its processes are there, and that it stands
abbrev pub event_named : ℕ → List Event → StepId → Result Found Refusal
event_named n history name =
    if names_processes n name then option_map_or (found_at history) (position_of name history) (Err refusal.NoStep)
    else Err refusal.NoProcess

-- the result for a standing event, or the refusal
abbrev pub for_standing : {A : Type 0} → Result Found Refusal → (Found → Result A Refusal) → Result A Refusal
for_standing (Ok found) go = go found
for_standing (Err why) go = Err why

-- an event of the name stands on which no later one depends
abbrev pub IsFreeName : List Event → StepId → Type 0
IsFreeName history name = (at : ℕ) × IsNamedAt history at name × IsFree depends history at

-- Undo: the event, and the history without it, where no later event depends on it; else the first that does.
abbrev pub undo_found : List Event → Found → Result (Event × List Event) Refusal
undo_found history found =
    option_map_or (λ dependent. Err (refusal.NeededBy (event_name dependent)))
    (find (depends found.event) found.later) (Ok (found.event, without history found.position))

abbrev pub undo_of : ℕ → List Event → StepId → Result (Event × List Event) Refusal
undo_of n history name = for_standing (event_named n history name) (undo_found history)

-- the result alone, of one that comes with the history that it leaves
abbrev pub result_alone : {A : Type 0} → Result (A × List Event) Refusal → Result A Refusal
result_alone (Ok done) = Ok done.0
result_alone (Err why) = Err why

-- the history that a result leaves; a refusal leaves it as it was
abbrev pub left_by : {A : Type 0} → List Event → Result (A × List Event) Refusal → List Event
left_by history (Ok done) = done.1
left_by history (Err why) = history

-- how many events were removed, or the refusal
abbrev pub number_removed : Result (List Event) Refusal → Result ℕ Refusal
number_removed (Ok events) = Ok (length events)
number_removed (Err why) = Err why

-- a list with the removed events at its end; a refusal leaves it as it was
abbrev pub with_removed : List Event → Result (List Event) Refusal → List Event
with_removed list (Ok events) = list ++ events
with_removed list (Err why) = list

-- Rollback: the event and its consequences, the last first, and the history without them.
abbrev pub rollback_of : ℕ → List Event → StepId → Result (List Event × List Event) Refusal
rollback_of n history name =
    for_standing (event_named n history name)
    (λ found. Ok (reverse (rolled_back depends history found.position), remaining depends history found.position))

-- of the events, in their order, those on which the effect depends directly
abbrev pub direct_among : List Event → Event → List Event
direct_among [] effect = []
direct_among (cause ∷ between) effect =
    if is_direct depends cause between effect then cause ∷ direct_among between effect else direct_among between effect

-- Why: the names of the direct causes, in order of process. A loss causes nothing.
abbrev pub causes_of : ℕ → List Event → StepId → Result (List StepId) Refusal
causes_of n history name =
    for_standing (event_named n history name) (λ found. Ok
    (map event_name (flat_map (λ p. filter (is_step_of p) (direct_among found.earlier found.event)) all_processes)))
