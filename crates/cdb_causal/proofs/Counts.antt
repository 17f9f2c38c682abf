-- An event is free exactly where it is a direct cause of none, and the other events keep their direct causes when one is added
-- and when a free one goes.
use Rattle.std.proofs.lemmas.Grind.{common_steps}
use Rattle.std.proofs.lemmas.Option.{gets}
use Rattle.std.proofs.Common.{◌≡◌, ℕ, zero, suc, ◌<◌, ◌≤◌, ◌≢◌, Bool, ◌⊎◌, inl, inr, ⊎_elim, ◌↔◌, List}
use Rattle.std.proofs.Common.{[], ◌∷◌, ◌++◌, length, refl, sym, ap, ◌∙◌, subst, arith}
use Rattle.std.specs.Bool.{⊤}
use Rattle.cdb_base.specs.Positions.{nth}
use Rattle.cdb_causal.specs.Causality.{IsLink, IsFree, IsDirectCause}
use Rattle.cdb_causal.specs.Laws.{HasNoEffect, KeepCausesWith, OthersKeepCauses}
use Rattle.cdb_causal.specs.Rollback.{without, position_before}
use Rattle.cdb_causal.proofs.Walks.{link_at, linked_or_not}

nth-without : {E : Type 0} (history : List E) (i k : ℕ) → nth (without history (suc i)) k ≡ nth history (position_before (suc i) k)
nth-without history i zero = refl
nth-without [] zero (suc k) = refl
nth-without [] (suc i) (suc k) = refl
nth-without (x ∷ xs) zero (suc k) = refl
nth-without (x ∷ xs) (suc i) (suc zero) = refl
nth-without (x ∷ xs) (suc i) (suc (suc k)) = nth-without xs i (suc k)

nth_in_longer : {E : Type 0} (xs : List E) (x : E) (k : ℕ) → k ≤ length xs → nth (xs ++ x ∷ []) k ≡ nth xs k
nth_in_longer xs x k within = grind (arith, common_steps, gets)

position_is : (i k : ℕ) → ((k < i) × (position_before i k ≡ k)) ⊎ ((i ≤ k) × (position_before i k ≡ suc k))
position_is zero k = inr (omega arith, refl)
position_is (suc i) zero = inl (omega arith, refl)
position_is (suc i) (suc k) = let before = position_is i k in grind arith

position_rises : (i k l : ℕ) → k < l → position_before i k < position_before i l
position_rises i k l h = grind (arith, position_is i k, position_is i l)

position_falls : (i k l : ℕ) → position_before i k < position_before i l → k < l
position_falls i k l h = grind (arith, position_is i k, position_is i l)

position_found : (i m : ℕ) → m ≢ i → (k : ℕ) × (position_before i k ≡ m)
position_found zero zero h = absurd (h refl)
position_found zero (suc m) h = (m, refl)
position_found (suc i) zero h = (zero, refl)
position_found (suc i) (suc m) h = let q = position_found i m (λ e. h (ap suc e)) in (suc q.0, ap suc q.1)

-- of what can be looked up at each number, there is none below a bound, or a first one
module _ (Holds : ℕ → Type 0) (look : (k : ℕ) → Holds k ⊎ (Holds k → ⊥)) where
  abbrev pub NoneBelow : ℕ → Type 0
  NoneBelow n = (k : ℕ) → k < n → Holds k → ⊥

  pub first_below : (n : ℕ) → NoneBelow n ⊎ ((k : ℕ) × Holds k × NoneBelow k)
  first_below zero = inl (λ k below h. absurd (omega (arith, below)))
  first_below (suc n) = ⊎_elim (λ none. ⊎_elim (λ h. inr (n, h, none)) (λ not. inl (none_more none not)) (look n)) (λ found. inr found) (first_below n)
    where
      below_next : (k : ℕ) → k < suc n → (k < n) ⊎ (k ≡ n)
      below_next k below = grind arith

      none_more : NoneBelow n → (Holds n → ⊥) → NoneBelow (suc n)
      none_more none not k below h = ⊎_elim (λ less. none k less h) (λ e. not (subst Holds e h)) (below_next k below)

module _ {E : Type 0} (depends : E → E → Bool) where
  -- the first event that depends on another has it as a direct cause
  linked_direct : (history : List E) (i j : ℕ) → IsLink depends history i j → (k : ℕ) × IsDirectCause depends history i k
  linked_direct history i j l =
      ⊎_elim
      (λ none. absurd (none j (omega arith) l))
      (λ found. (found.0, record { link = found.1; nothing_between = λ m one two. found.2 m two.later one }))
      (first_below (IsLink depends history i) (linked_or_not depends history i) (suc j))

  pub free_without_effects : (history : List E) (i : ℕ) → IsFree depends history i ↔ HasNoEffect depends history i
  free_without_effects history i = ((λ free j d. free j d.link), (λ none j l. let d = linked_direct history i j l in none d.0 d.1))

  -- each position of a list has its place in another, in order, and the same event stands there
  record IsEmbedded (history others : List E) (IsWithin : ℕ → Type 0) (place : ℕ → ℕ) : Type 0 where
    within : (k l : ℕ) → k < l → IsWithin l → IsWithin k
    stands : (k : ℕ) → IsWithin k → nth others (place k) ≡ nth history k
    rises : (k l : ℕ) → k < l → place k < place l
    falls : (k l : ℕ) → place k < place l → k < l
    found : (m l : ℕ) → IsWithin l → IsLink depends others m (place l) → (k : ℕ) × (place k ≡ m)

  -- links and direct causes are the same in both
  module _ (history others : List E) (IsWithin : ℕ → Type 0) (place : ℕ → ℕ) (e : IsEmbedded history others IsWithin place) where
    link_there : (k l : ℕ) → IsWithin l → IsLink depends history k l → IsLink depends others (place k) (place l)
    link_there k l within one =
        link_at depends others (place k) (place l) one.cause one.effect (e.stands k (e.within k l one.later within) ∙ one.at_cause)
        (e.stands l within ∙ one.at_effect) (e.rises k l one.later) one.linked

    link_back : (k l : ℕ) → IsWithin l → IsLink depends others (place k) (place l) → IsLink depends history k l
    link_back k l within one =
        let later = e.falls k l one.later in
        link_at depends history k l one.cause one.effect (sym (e.stands k (e.within k l later within)) ∙ one.at_cause)
        (sym (e.stands l within) ∙ one.at_effect) later one.linked

    same_causes : (k l : ℕ) → IsWithin l → IsDirectCause depends history k l ↔ IsDirectCause depends others (place k) (place l)
    same_causes k l within = (
      (λ d. record { link = link_there k l within d.link; nothing_between = λ m one two. by_place d m one two (e.found m l within two) }),
      (λ d. record {
        link = link_back k l within d.link;
        nothing_between = λ m one two. d.nothing_between (place m) (link_there k m (e.within m l two.later within) one) (link_there m l within two);
      }),
    )
      where
        by_place : IsDirectCause depends history k l → (m : ℕ) → IsLink depends others (place k) m → IsLink depends others m (place l)
            → (q : ℕ) × (place q ≡ m) → ⊥
        by_place d m one two (q, is) =
            let after = link_back q l within (subst (λ x. IsLink depends others x (place l)) (sym is) two) in
            d.nothing_between q (link_back k q (e.within q l after.later within) (subst (IsLink depends others (place k)) (sym is) one)) after

  -- where a free event is taken out, the others keep their direct causes
  pub direct_causes_stay : (history : List E) (at : ℕ) → 1 ≤ at → IsFree depends history at → OthersKeepCauses depends history at
  direct_causes_stay history zero from_one free k l = absurd (omega (arith, from_one))
  direct_causes_stay history (suc i) from_one free k l =
      same_causes (without history (suc i)) history (λ _. ⊤) (position_before (suc i)) (record {
        within = λ k l later all. tt;
        stands = λ k all. sym (nth-without history i k);
        rises = position_rises (suc i);
        falls = position_falls (suc i);
        found = λ m l all link.
            position_found (suc i) m (λ here. free (position_before (suc i) l) (subst (λ x. IsLink depends history x (position_before (suc i) l)) here link));
      }) k l tt

  -- where an event is added, the others keep their direct causes
  pub causes_stay_with : (history : List E) (event : E) → KeepCausesWith depends history event
  causes_stay_with history event k l within =
      let same = same_causes history (history ++ event ∷ []) (λ l. l ≤ length history) (λ k. k) (record {
        within = λ k l later most. omega (arith, later, most);
        stands = λ k most. nth_in_longer history event k most;
        rises = λ k l later. later;
        falls = λ k l later. later;
        found = λ m l most link. (m, refl);
      }) k l within in
      (same.1, same.0)
