-- What is rolled back, by a walk along the list, is the event with its consequences, and what remains is all else; one by one from the last back.
use Rattle.std.proofs.lemmas.Bool.{or_left, or_right, or_cases, cases_Bool, cases_lt, or_parts, or_from}
use Rattle.std.proofs.Math.Bool.{or-false}
use Rattle.std.proofs.lemmas.Option.{same_Some}
use Rattle.std.proofs.lemmas.List.Folds.{list_any-append}
use Rattle.std.proofs.Common.{◌≡◌, ℕ, zero, suc, ◌+◌, ◌<◌, ◌≤◌, Bool, true, ◌⊎◌, inl, inr, ⊎_elim, ◌↔◌, List, [], ◌∷◌, ◌++◌, Some, refl, sym, ap, ◌∙◌, subst}
use Rattle.std.proofs.Common.{true≢false, arith, lt_trans, drop, false, ap₂}
use Rattle.std.specs.Option.{option_map_or}
use Rattle.cdb_base.specs.Positions.{nth}
use Rattle.cdb_causal.specs.Causality.{IsLink, IsConsequence, direct, onward}
use Rattle.cdb_causal.specs.Rollback.{IsParted, done, kept, gone, IsRolledBack, rolled_back, consequences, remaining, depends_on_one, dependents}
use Rattle.cdb_causal.specs.Rollback.{independents, without}
use Rattle.cdb_causal.proofs.Lists.{at_drop, drop_next}
use Rattle.cdb_causal.proofs.Walks.{linked_events, IsIndependent, free_behind}
use Rattle.std.specs.List.{AllByRecursion}
use Rattle.cdb_causal.specs.Laws.{IsFreeIfAlone, MayGoLastFirst}

-- ---- What is rolled back, by a walk along the list, is the event with its consequences, and what remains is all else.

module _ {E : Type 0} (depends : E → E → Bool) where
  module _ (history : List E) (i : ℕ) where
    -- a consequence stands later
    pub later_consequence : {j : ℕ} → IsConsequence depends history i j → i < j
    later_consequence (direct l) = l.later
    later_consequence (onward c l) = let p : i < _ = later_consequence c in lt_trans p l.later

    -- what is linked to a position that is rolled back is a consequence
    pub linked_on : (j k : ℕ) → IsRolledBack depends history i j → IsLink depends history j k → IsConsequence depends history i k
    linked_on j k (inl e) l = direct (subst (λ j. IsLink depends history j k) e l)
    linked_on j k (inr c) l = onward c l

    pub not_before : (k : ℕ) → k < i → IsRolledBack depends history i k → ⊥
    not_before k before (inl e) = omega (arith, before, e)
    not_before k before (inr c) = let later = later_consequence c in omega (arith, before, later)

    later_rolled : (k : ℕ) → i < k → IsRolledBack depends history i k → IsConsequence depends history i k
    later_rolled k later (inl e) = absurd (omega (arith, later, e))
    later_rolled k later (inr c) = c

    -- an event that is rolled back, on which the given one depends
    pub record IsCause (event : E) : Type 0 where
      pub position : ℕ
      pub cause : E
      pub stands : nth history position ≡ Some cause
      pub rolled : IsRolledBack depends history i position
      pub linked : depends cause event ≡ true

    abbrev pub HasCauseBelow : ℕ → E → Type 0
    HasCauseBelow k event = (c : IsCause event) × (c.position < k)

    -- one of the causes is there where one that is rolled back is below position k
    abbrev pub AreCauses : ℕ → List E → Type 0
    AreCauses k causes = (event : E) → depends_on_one depends causes event ≡ true ↔ HasCauseBelow k event

    module _ (k : ℕ) (event : E) (at : nth history k ≡ Some event) where
      by_link : (j : ℕ) → IsRolledBack depends history i j → IsLink depends history j k → HasCauseBelow k event
      by_link j rolled l =
          let linked = linked_events depends history j k l.cause event l.at_cause at l in
          (record { position = j; cause = l.cause; stands = l.at_cause; rolled = rolled; linked = linked }, l.later)

      has_cause : IsConsequence depends history i k → HasCauseBelow k event
      has_cause (direct l) = by_link i (inl refl) l
      has_cause (onward {j = j} c l) = by_link j (inr c) l

      cause_leads : HasCauseBelow k event → IsConsequence depends history i k
      cause_leads (c, below) =
          linked_on c.position k c.rolled
          (record { cause = c.cause; effect = event; later = below; at_cause = c.stands; at_effect = at; linked = c.linked })

    no_causes : AreCauses i []
    no_causes event = (λ h. absurd (true≢false (sym h)), λ c. absurd (not_before (c.0).position c.1 (c.0).rolled))

    -- a cause below the next position stands below this one, or here
    below_next : (k : ℕ) (event : E) → HasCauseBelow (suc k) event → HasCauseBelow k event ⊎ ((c : IsCause event) × (c.position ≡ k))
    below_next k event (c, below) = ⊎_elim (λ less. inl (c, less)) (λ least. inr (c, omega (arith, below, least))) (cases_lt c.position k)

    causes_same : (k : ℕ) (causes : List E) → (IsRolledBack depends history i k → ⊥) → AreCauses k causes → AreCauses (suc k) causes
    causes_same k causes not are event = (
      λ h. let c = (are event).0 h in let below = c.1 in (c.0, omega (arith, below)),
      λ c. ⊎_elim (are event).1 (λ here. absurd (not (subst (IsRolledBack depends history i) here.1 (here.0).rolled))) (below_next k event c),
    )

    causes_more : (k : ℕ) (causes : List E) (last : E) → nth history k ≡ Some last → IsRolledBack depends history i k → AreCauses k causes
        → AreCauses (suc k) (causes ++ last ∷ [])
    causes_more k causes last at rolled are event =
        rw (list_any-append (λ cause. depends cause event) causes (last ∷ []), or-false (depends last event)) (
          λ h. ⊎_elim
              (λ one. let c = (are event).0 one in let below = c.1 in (c.0, omega (arith, below)))
              (λ one. (record { position = k; cause = last; stands = at; rolled = rolled; linked = one }, omega arith))
              (or_cases _ _ h),
          λ c. ⊎_elim
              (λ less. or_left _ _ ((are event).1 less))
              (λ here.
              let is : (here.0).cause ≡ last = same_Some _ last (sym (here.0).stands ∙ ap (nth history) here.1 ∙ at) in
              or_right _ _ (subst (λ x. depends x event ≡ true) is (here.0).linked))
              (below_next k event c),
        )

    -- the walk over what follows the causes, where k events stand before
    pub parted_behind : (k : ℕ) (causes rest : List E) → i < suc k → drop k history ≡ rest → AreCauses (suc k) causes
        → IsParted (IsConsequence depends history i) (suc k) rest (independents depends causes rest) (dependents depends causes rest)
    parted_behind k causes [] above is are = done
    parted_behind k causes (event ∷ events) above is are =
        let at = at_drop history k event events is in
        let next = drop_next history k event events is in
        elim (cases_Bool (depends_on_one depends causes event)) [
          | inl h ↦
              let c = cause_leads (suc k) event at ((are event).0 h) in
              rw h (gone c (parted_behind (suc k) (causes ++ event ∷ []) events (omega arith) next (causes_more (suc k) causes event at (inr c) are)))
          | inr h ↦
              let not = λ (c : IsConsequence depends history i (suc k)). true≢false (sym ((are event).1 (has_cause (suc k) event at c)) ∙ h) in
              let same = causes_same (suc k) causes (λ rolled. not (later_rolled (suc k) above rolled)) are in
              rw h (kept not (parted_behind (suc k) causes events (omega arith) next same))
        ]

    -- and over what follows the event itself
    pub behind_itself : (k : ℕ) (event : E) (events : List E) → suc k ≡ i → drop k history ≡ event ∷ events
        → IsParted (IsConsequence depends history i) (suc (suc k)) events (independents depends (event ∷ []) events) (dependents depends (event ∷ []) events)
    behind_itself k event events here is =
        parted_behind (suc k) (event ∷ []) events (omega arith) (drop_next history k event events is)
        (causes_more (suc k) [] event (at_drop history k event events is) (inl here) (subst (λ n. AreCauses n []) (sym here) no_causes))

    -- behind the event itself what is rolled back are the consequences
    rolled_behind : {position : ℕ} {events left removed : List E} → i < position → IsParted (IsConsequence depends history i) position events left removed
        → IsParted (IsRolledBack depends history i) position events left removed
    rolled_behind above done = done
    rolled_behind above (gone c p) = gone (inr c) (rolled_behind (let a = above in omega arith) p)
    rolled_behind {position} above (kept not p) = kept (λ rolled. not (later_rolled position above rolled)) (rolled_behind (let a = above in omega arith) p)

    -- the walk up to the event itself, where k events stand before and m more before it
    parted_from : (m k : ℕ) (rest : List E) → suc (k + m) ≡ i → drop k history ≡ rest
        → IsParted (IsRolledBack depends history i) (suc k) rest (remaining depends rest (suc m)) (rolled_back depends rest (suc m))
    parted_from zero k [] e is = done
    parted_from (suc m) k [] e is = done
    parted_from zero k (event ∷ events) e is =
        let here : suc k ≡ i = omega arith in
        gone (inl here) (rolled_behind (omega arith) (behind_itself k event events here is))
    parted_from (suc m) k (event ∷ events) e is =
        kept (not_before (suc k) (omega arith)) (parted_from m (suc k) events (omega arith) (drop_next history k event events is))

  -- the event itself comes first of what is rolled back
  pub rolled_back_split : (history : List E) (at : ℕ) (event : E) → nth history at ≡ Some event
      → rolled_back depends history at ≡ event ∷ consequences depends history at
  rolled_back_split history at event stands = ap (λ o. option_map_or (λ (e : E). e ∷ []) o [] ++ consequences depends history at) stands

  -- the list is parted in the event with its consequences and all else, each in order
  pub parted : (history : List E) (at : ℕ) → 1 ≤ at
      → IsParted (IsRolledBack depends history at) 1 history (remaining depends history at) (rolled_back depends history at)
  parted history zero from_one = absurd (omega (arith, from_one))
  parted history (suc i) from_one = parted_from history (suc i) i 0 history (omega arith) refl

-- ---- The consequences of an event, parted from the list by the least set.

module _ {E : Type 0} (depends : E → E → Bool) where
  abbrev pub IsPartedBut : List E → ℕ → ℕ → List E → List E → Type 0
  IsPartedBut history i position events removed = (left : List E) × IsParted (IsConsequence depends history i) position events left removed

  -- the walk up to the event itself, where k events stand before and m more before it
  consequences_from : (history : List E) (i m k : ℕ) (rest : List E) → suc (k + m) ≡ i → drop k history ≡ rest
      → IsPartedBut history i (suc k) rest (consequences depends rest (suc m))
  consequences_from history i zero k [] e is = ([], done)
  consequences_from history i (suc m) k [] e is = ([], done)
  consequences_from history i zero k (event ∷ events) e is =
      let here : suc k ≡ i = omega arith in (
        event ∷ independents depends (event ∷ []) events,
        kept (λ c. let later = later_consequence depends history i c in omega arith) (behind_itself depends history i k event events here is),
      )
  consequences_from history i (suc m) k (event ∷ events) e is =
      let rest = consequences_from history i m (suc k) events (omega arith) (drop_next history k event events is) in
      (event ∷ rest.0, kept (λ c. not_before depends history i (suc k) (omega arith) (inr c)) rest.1)

  pub consequences_parted : (history : List E) (at : ℕ) → 1 ≤ at → IsPartedBut history at 1 history (consequences depends history at)
  consequences_parted history zero from_one = absurd (omega (arith, from_one))
  consequences_parted history (suc i) from_one = consequences_from history (suc i) i 0 history (omega arith) refl

-- ---- A rollback, undone one by one from the last consequence back: the last of what is rolled back is free, and without
-- it the others are what is rolled back.

module _ {E : Type 0} (depends : E → E → Bool) where
  -- none of the events depends on any of the causes: nothing is caught, and all is spared
  abbrev pub AreFree : List E → List E → Type 0
  AreFree causes events = AllByRecursion (λ event. depends_on_one depends causes event ≡ false) events

  none_dependent : (causes events : List E) → dependents depends causes events ≡ [] → AreFree causes events
  none_dependent causes [] h = tt
  none_dependent causes (x ∷ xs) h =
      elim (cases_Bool (depends_on_one depends causes x)) [ inl e ↦ let caught = rw e at h in absurd (cc) | inr e ↦ (e, none_dependent causes xs (rw e at h)) ]

  pub all_spared : (causes events : List E) → AreFree causes events
      → (independents depends causes events ≡ events) × (dependents depends causes events ≡ [])
  all_spared causes [] free = (refl, refl)
  all_spared causes (x ∷ xs) free = let rest = all_spared causes xs free.1 in rw free.0 (ap (λ l. x ∷ l) rest.0, rest.1)

  pub independent_free : (x : E) (events : List E) → IsIndependent depends x events → AreFree (x ∷ []) events
  independent_free x [] none = tt
  independent_free x (e ∷ es) none = (or_from (depends x e) false none.0 refl, independent_free x es none.1)

  -- none depends on the last cause, nor on any of the others
  last_apart : (causes : List E) (x : E) (events : List E) → AreFree (causes ++ x ∷ []) events → AreFree causes events × IsIndependent depends x events
  last_apart causes x [] free = (tt, tt)
  last_apart causes x (e ∷ es) free =
      let both = or_parts _ _ (rw (list_any-append (λ cause. depends cause e) causes (x ∷ [])) at free.0) in
      let rest = last_apart causes x es free.1 in
      ((both.0, rest.0), ((or_parts (depends x e) false both.1).0, rest.1))

  -- the last of what is caught, where others stand before it
  record IsLastDependent (causes events removed : List E) (last : E) : Type 0 where
    others : ℕ
    at : nth events (suc others) ≡ Some last
    independent : IsIndependent depends last (drop (suc others) events)
    others_dependent : dependents depends causes (without events (suc others)) ≡ removed
    same_independent : independents depends causes (without events (suc others)) ≡ independents depends causes events

  -- it stands first where it is caught and nothing behind it
  first_last : (causes : List E) (x : E) (xs : List E) → depends_on_one depends causes x ≡ true → dependents depends (causes ++ x ∷ []) xs ≡ []
      → IsLastDependent causes (x ∷ xs) [] x
  first_last causes x xs e none =
      let free = none_dependent (causes ++ x ∷ []) xs none in
      let apart = last_apart causes x xs free in
      let spared = all_spared causes xs apart.0 in
      record {
        others = 0;
        at = refl;
        independent = apart.1;
        others_dependent = spared.1;
        same_independent = rw e (spared.0 ∙ sym (all_spared (causes ++ x ∷ []) xs free).0);
      }

  taken_one : (causes : List E) (x : E) (xs removed : List E) (last : E) → depends_on_one depends causes x ≡ true
      → x ∷ dependents depends (causes ++ x ∷ []) xs ≡ removed ++ last ∷ []
      → ((more : List E) → dependents depends (causes ++ x ∷ []) xs ≡ more ++ last ∷ [] → IsLastDependent (causes ++ x ∷ []) xs more last)
      → IsLastDependent causes (x ∷ xs) removed last
  taken_one causes x xs [] last e h go =
      let is : x ≡ last = cc in
      let none : dependents depends (causes ++ x ∷ []) xs ≡ [] = cc in
      subst (IsLastDependent causes (x ∷ xs) []) is (first_last causes x xs e none)
  taken_one causes x xs (t ∷ ts) last e h go =
      let is : x ≡ t = cc in
      let more : dependents depends (causes ++ x ∷ []) xs ≡ ts ++ last ∷ [] = cc in
      let rest = go ts more in
      record {
        others = suc rest.others;
        at = rest.at;
        independent = rest.independent;
        others_dependent = rw e (ap₂ (λ y ys. y ∷ ys) is rest.others_dependent);
        same_independent = rw e rest.same_independent;
      }

  last_dependent : (causes events removed : List E) (last : E)
      → dependents depends causes events ≡ removed ++ last ∷ [] → IsLastDependent causes events removed last
  last_dependent causes [] [] last h = absurd (cc)
  last_dependent causes [] (t ∷ ts) last h = absurd (cc)
  last_dependent causes (x ∷ xs) removed last h =
      elim (cases_Bool (depends_on_one depends causes x)) [
        | inl e ↦ taken_one causes x xs removed last e (rw e at h) (λ more m. last_dependent (causes ++ x ∷ []) xs more last m)
        | inr e ↦
            let rest = last_dependent causes xs removed last (rw e at h) in
            record {
              others = suc rest.others;
              at = rest.at;
              independent = rest.independent;
              others_dependent = rw e rest.others_dependent;
              same_independent = rw e (ap (λ l. x ∷ l) rest.same_independent);
            }
      ]

  -- Where the event at a position has no consequence, it is free, and all else remains.
  pub rolled_back_alone : (history : List E) (at : ℕ) → 1 ≤ at → IsFreeIfAlone depends history at
  rolled_back_alone history zero from_one = absurd (omega (arith, from_one))
  rolled_back_alone history (suc i) from_one = λ event h.
      let q = alone history i event h in
      (q.0, free_behind depends history (suc i) event q.0 q.1, q.2)
    where
      alone : (history : List E) (i : ℕ) (event : E) → rolled_back depends history (suc i) ≡ event ∷ []
          → (nth history (suc i) ≡ Some event) × IsIndependent depends event (drop (suc i) history)
          × (without history (suc i) ≡ remaining depends history (suc i))
      alone [] i event h = absurd (cc)
      alone (x ∷ xs) zero event h =
          let is : x ≡ event = cc in
          let none : dependents depends (x ∷ []) xs ≡ [] = cc in
          let free = none_dependent (x ∷ []) xs none in
          (ap Some is, rw is at (last_apart [] x xs free).1, sym (all_spared (x ∷ []) xs free).0)
      alone (x ∷ xs) (suc i) event h = let q = alone xs i event h in (q.0, q.1, ap (λ l. x ∷ l) q.2)

  -- Where it has some, the last of them is free, and without that one the others are its consequences, and the same events remain.
  pub rolled_back_last : (history : List E) (at : ℕ) → 1 ≤ at → MayGoLastFirst depends history at
  rolled_back_last history zero from_one = absurd (omega (arith, from_one))
  rolled_back_last history (suc i) from_one = λ event last removed h.
      let q = some history i event last removed h in
      (suc q.0, q.1, free_behind depends history (suc q.0) last q.1 q.2, q.3, q.4)
    where
      some : (history : List E) (i : ℕ) (event last : E) (removed : List E) → rolled_back depends history (suc i) ≡ event ∷ (removed ++ last ∷ [])
          → (j : ℕ) × (nth history (suc j) ≡ Some last) × IsIndependent depends last (drop (suc j) history)
          × (rolled_back depends (without history (suc j)) (suc i) ≡ event ∷ removed)
          × (remaining depends (without history (suc j)) (suc i) ≡ remaining depends history (suc i))
      some [] i event last removed h = absurd (cc)
      some (x ∷ xs) zero event last removed h =
          let is : x ≡ event = cc in
          let others : dependents depends (x ∷ []) xs ≡ removed ++ last ∷ [] = cc in
          let q = last_dependent (x ∷ []) xs removed last others in
          (suc q.others, q.at, q.independent, ap₂ (λ y ys. y ∷ ys) is q.others_dependent, q.same_independent)
      some (x ∷ xs) (suc i) event last removed h = let q = some xs i event last removed h in (suc q.0, q.1, q.2, q.3, ap (λ l. x ∷ l) q.4)
