-- The table of places, when the history grows.
use Rattle.std.proofs.Common.{◌≡◌, ℕ, suc, ◌+◌, ◌<◌, Bool, true, false, List, [], ◌∷◌, ◌++◌, length, get_or, take, Option}
use Rattle.std.proofs.Common.{Some, None, Result, Ok, Err, OnOk, cond, nat_eq, option_map, refl, sym, ap, subst, ◌∙◌, arith, position, length-take-le}
use Rattle.std.specs.HashMap.{HashMap, get}
use Rattle.std.specs.List.{position_from}
use Rattle.std.proofs.lemmas.Bool.Decides.{nat_tests}
use Rattle.std.proofs.lemmas.Iterator.Adapters.{position_from-zero}
use Rattle.cdb_base.specs.declared.event.Event.{Event}
use Rattle.std.specs.Option.{option_map_or}
use Rattle.cdb_rules.proofs.Beginnings.{one_more}
use Rattle.cdb_rules.proofs.Flagged.{item_at}
use Rattle.cdb_draw.specs.Positions.{does, same_transit, transit_of, Transit, Sent, Taken}
use Rattle.cdb_draw.specs.Sends.{ArePlaces, Fits, HasNoted, kept_or_noted, transit_code}

-- ---- the first position at which a test holds

one_case : (b t : Bool) (i k : ℕ) (rest more : Option ℕ) → more ≡ kept_or_noted rest t k → cond b (Some i) more ≡ kept_or_noted (cond b (Some i) rest) t k
one_case true t i k rest more h = refl
one_case false t i k rest more h = h

from_push : {X : Type 0} (p : X → Bool) (i : ℕ) (xs : List X) (y : X)
    → position_from p i (xs ++ y ∷ []) ≡ kept_or_noted (position_from p i xs) (p y) (i + length xs)
from_push p i [] y = let e : i ≡ i + 0 = omega arith in ap (λ (n : ℕ). cond (p y) (Some n) None) e
from_push p i (x ∷ xs) y =
    let e : (i + 1) + length xs ≡ i + suc (length xs) = omega arith in
    one_case (p x) (p y) i (i + suc (length xs)) (position_from p (i + 1) xs) (position_from p (i + 1) (xs ++ y ∷ []))
    (from_push p (i + 1) xs y ∙ ap (λ (n : ℕ). kept_or_noted (position_from p (i + 1) xs) (p y) n) e)

-- counted from 1
kept_next : (o : Option ℕ) (b : Bool) (n : ℕ) → option_map suc (kept_or_noted o b n) ≡ kept_or_noted (option_map suc o) b (suc n)
kept_next (Some x) b n = refl
kept_next None true n = refl
kept_next None false n = refl

first_more : {X : Type 0} (p : X → Bool) (xs : List X) (y : X)
    → option_map suc (position p (xs ++ y ∷ [])) ≡ kept_or_noted (option_map suc (position p xs)) (p y) (suc (length xs))
first_more p xs y =
    let e : 0 + length xs ≡ length xs = omega arith in
    ap (option_map suc) (position_from-zero p (xs ++ y ∷ []) ∙ from_push p 0 xs y ∙ ap (λ (n : ℕ). kept_or_noted (position_from p 0 xs) (p y) n) e)
    ∙ kept_next (position_from p 0 xs) (p y) (length xs)
    ∙ ap (λ o. kept_or_noted (option_map suc o) (p y) (suc (length xs))) (sym (position_from-zero p xs))

kept_false : (o : Option ℕ) (n : ℕ) → kept_or_noted o false n ≡ o
kept_false (Some x) n = refl
kept_false None n = refl

-- ---- one event more

-- names are told apart by their numbers
coded : (one other : Transit) → Fits one → Fits other → nat_eq (transit_code one) (transit_code other) ≡ same_transit other one
coded (Sent one) (Sent other) a b = grind (arith, nat_tests)
coded (Taken one) (Taken other) (a, b, c) (d, e, f) = grind (arith, nat_tests)
coded (Sent one) (Taken other) a (d, e, f) = grind (arith, nat_tests)
coded (Taken one) (Sent other) (a, b, c) d = grind (arith, nat_tests)

module _ {S : Type 0} (old : HashMap ℕ ℕ S) (event : Event) where
  pub noted : {A E : Type 0} (result : Result A E) (new : HashMap ℕ ℕ S) (number position : ℕ) (one : Transit) → transit_of event ≡ Some one
      → number ≡ transit_code one → Fits one
      → OnOk result ((q : ℕ) → get nat_eq new q ≡ kept_or_noted (get nat_eq old q) (nat_eq number q) position)
      → OnOk result (HasNoted old new position event)
  noted (Ok done) new number position one is value fits kept = λ before count so transit its.
      let same : nat_eq number (transit_code transit) ≡ does transit event =
      rw value (coded one transit fits its) ∙ ap (λ o. option_map_or (same_transit transit) o false) (sym is) in
      kept (transit_code transit) ∙ rw (so transit its, same, ← count) (sym (first_more (does transit) before event))
  noted (Err why) new number position one is value fits kept = tt

  pub not_noted : transit_of event ≡ None → (position : ℕ) → HasNoted old old position event
  not_noted none position = λ before count so transit its.
      let other : does transit event ≡ false = ap (λ o. option_map_or (same_transit transit) o false) none in
      so transit its ∙ sym (first_more (does transit) before event ∙ rw other (kept_false _ _))

-- of the events up to one, and then of that one
pub noted_next : {S : Type 0} (events : List Event) (i : ℕ) (event : Event) (old new : HashMap ℕ ℕ S)
    → i < length events → event ≡ get_or events i event → ArePlaces old (take i events)
    → HasNoted old new (i + 1) event → ArePlaces new (take (i + 1) events)
noted_next events i event old new below is so notes =
    let count = length-take-le i events (omega arith) in
    subst (ArePlaces new) (one_more events i event (item_at refl i event below is)) (notes (take i events) (omega (arith, count)) so)
