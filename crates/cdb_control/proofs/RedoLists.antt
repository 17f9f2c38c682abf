-- The redo lists, and those of them that memory holds.
use Rattle.std.proofs.lemmas.Grind.{common_steps}
use Rattle.std.proofs.lemmas.Option.{gets}
use Rattle.std.proofs.Common.{◌≡◌, ℕ, zero, suc, ◌+◌, ◌-◌, ◌<◌, ◌≤◌, List, [], ◌∷◌, length, get_or, map, set, ap, sym, ◌∙◌, arith}
use Rattle.std.specs.Prelude.{Vec, vec_capacity}
use Rattle.std.specs.Global.{Global}
use Rattle.std.proofs.lemmas.List.{length-map, map-set, get_or-map, get_or-set_same, set-get_or}
use Rattle.cdb_base.specs.declared.event.Event.{Event}
use Rattle.cdb_control.specs.Done.{NoneShrinks}
use Rattle.cdb_control.specs.Kept.{waiting}

-- a list is no longer than all of them
pub waiting-at : (lists : List (List Event)) (i : ℕ) (d : List Event) → i < length lists → length (get_or lists i d) ≤ waiting lists
waiting-at [] i d low = absurd (omega (arith, low))
waiting-at (events ∷ more) zero d low = omega arith
waiting-at (events ∷ more) (suc i) d low = omega (arith, waiting-at more i d (omega (arith, low)))

-- one list is another
pub waiting-set : (lists : List (List Event)) (i : ℕ) (events : List Event) → i < length lists
    → waiting (set lists i events) + length (get_or lists i []) ≡ waiting lists + length events
waiting-set [] i events low = absurd (omega (arith, low))
waiting-set (x ∷ more) zero events low = omega arith
waiting-set (x ∷ more) (suc i) events low = omega (arith, waiting-set more i events (omega (arith, low)))

set-grown : (xs : List ℕ) (k m i : ℕ) → get_or xs k 0 ≤ m → get_or xs i 0 ≤ get_or (set xs k m) i 0
set-grown xs k m i more = grind (arith, common_steps, gets)

-- ---- in memory

abbrev pub events_in : List (Vec Event Global) → List (List Event)
events_in lists = map (λ list. list.items) lists

abbrev pub capacities_in : List (Vec Event Global) → List ℕ
capacities_in lists = map (λ list. vec_capacity list) lists

-- a seat's list is among those in memory; another may take its place
pub record IsListOf (lists : List (Vec Event Global)) (seat : ℕ) (old : Vec Event Global) : Type 0 where
  pub low : seat - 1 < length (events_in lists)
  pub events : get_or (events_in lists) (seat - 1) [] ≡ old.items
  pub capacity : get_or (capacities_in lists) (seat - 1) 0 ≡ vec_capacity old
  pub put : (new : Vec Event Global) → events_in (set lists (seat - 1) new) ≡ set (events_in lists) (seat - 1) new.items
  pub same : (new : Vec Event Global) → new.items ≡ old.items → events_in (set lists (seat - 1) new) ≡ events_in lists
  pub placed : (new : Vec Event Global) → get_or (capacities_in (set lists (seat - 1) new)) (seat - 1) 0 ≡ vec_capacity new
  pub grown : (new : Vec Event Global) → vec_capacity old ≤ vec_capacity new
      → NoneShrinks (capacities_in lists) (capacities_in (set lists (seat - 1) new))

pub list_of : {seat : ℕ} {old : Vec Event Global} (lists : List (Vec Event Global)) → (1 ≤ seat) × (seat ≤ length (events_in lists))
    → old ≡ get_or lists (seat - 1) old → IsListOf lists seat old
list_of {seat} {old} lists has is =
    let items = λ (list : Vec Event Global). list.items in
    let space = λ (list : Vec Event Global). vec_capacity list in
    let many = length-map lists items in
    let low : seat - 1 < length lists = omega (arith, many, has.0, has.1) in
    let held = get_or-map items lists (seat - 1) old [] low ∙ ap items (sym is) in
    let room = get_or-map space lists (seat - 1) old 0 low ∙ ap space (sym is) in
    record {
      low = omega (arith, has.0, has.1);
      events = held;
      capacity = room;
      put = λ new. map-set items lists (seat - 1) new;
      same = λ new as_it_was.
          map-set items lists (seat - 1) new ∙ ap (set (events_in lists) (seat - 1)) (as_it_was ∙ sym held)
          ∙ set-get_or (events_in lists) (seat - 1) [];
      placed = λ new.
          ap (λ (l : List ℕ). get_or l (seat - 1) 0) (map-set space lists (seat - 1) new)
          ∙ get_or-set_same (capacities_in lists) (seat - 1) (vec_capacity new) 0 (omega (arith, length-map lists space, low));
      grown = λ new more i.
          rw (map-set space lists (seat - 1) new) (set-grown (capacities_in lists) (seat - 1) (vec_capacity new) i (omega (arith, room, more)));
    }
