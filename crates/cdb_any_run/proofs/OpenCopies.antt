-- The copies that a process can still receive, one pending copy after another.
use Rattle.std.proofs.Common.{◌≡◌, ℕ, ◌+◌, ◌<◌, Bool, true, false, cond, List, [], ◌∷◌, ◌++◌, length, Option}
use Rattle.std.proofs.Common.{None, Some, filter, find, inl, inr, refl, ap, sym, ◌∙◌, subst, arith, append_assoc, append-nil}
use Rattle.std.specs.List.{AllByRecursion, range_with_len, flat_map}
use Rattle.std.proofs.lemmas.Bool.{cases_Bool}
use Rattle.std.proofs.lemmas.Bool.Decides.{nat_tests}
use Rattle.std.proofs.lemmas.Grind.{common_steps}
use Rattle.std.proofs.lemmas.List.{flat_map_more, map-id}
use Rattle.std.proofs.lemmas.List.FromFn.{map-range_with_len_more}
use Rattle.std.proofs.lemmas.Option.{gets, none-some, same_Some}
use Rattle.cdb_base.specs.declared.name.MsgName.{MsgName}
use Rattle.cdb_message.specs.Mail.{MailState, sent_names, is_open, is_above, copies_for}
use Rattle.cdb_message.specs.Names.{is_name_below}
use Rattle.cdb_message.proofs.RisingNumbers.{Rise, all-mapped, below-not_back, names-rise, not_below_itself}

-- ---- the order of names

above-trans : (after : Option MsgName) (a b : MsgName) → is_above after a ≡ true → is_name_below a b ≡ true → is_above after b ≡ true
above-trans None a b h k = refl
above-trans (Some name) a b h k = grind (arith, nat_tests)

-- ---- lists in that order

kept : {A : Type 0} (P : List A → Type 0) (b : Bool) (x : A) (xs : List A) → P (x ∷ xs) → P xs → P (cond b (x ∷ xs) xs)
kept P true x xs with_it without = with_it
kept P false x xs with_it without = without

all-filtered : {A : Type 0} (P : A → Type 0) (test : A → Bool) (xs : List A) → AllByRecursion P xs → AllByRecursion P (filter test xs)
all-filtered P test [] all = tt
all-filtered P test (x ∷ xs) all = let rest = all-filtered P test xs all.1 in kept (AllByRecursion P) (test x) x (filter test xs) (all.0, rest) rest

rise-filtered : (test : MsgName → Bool) (names : List MsgName) → Rise names → Rise (filter test names)
rise-filtered test [] rise = tt
rise-filtered test (name ∷ names) rise =
    let rest = rise-filtered test names rise.1 in
    kept Rise (test name) name (filter test names) (all-filtered (λ other. is_name_below name other ≡ true) test names rise.0, rest) rest

module _ (mail : MailState) where
  pub copies-rise : (p : ℕ) → Rise (copies_for mail p)
  copies-rise p = rise-filtered (is_open mail p) (sent_names mail) (names-rise mail)

-- ---- a look from one pending name to the next

all-true : {A : Type 0} (test : A → Bool) (xs : List A) → AllByRecursion (λ x. test x ≡ true) xs → filter test xs ≡ xs
all-true test [] all = refl
all-true test (x ∷ xs) all = rw all.0 (ap (λ rest. x ∷ rest) (all-true test xs all.1))

found-all : {A : Type 0} (P : A → Type 0) (test : A → Bool) (xs : List A) (x : A) → AllByRecursion P xs → find test xs ≡ Some x → P x
found-all P test [] x all found = absurd (none-some x found)
found-all P test (y ∷ ys) x all found = elim (cases_Bool (test y)) [
  | inl here ↦ rw (← same_Some y x (rw here at found)) all.0
  | inr not ↦ found-all P test ys x all.1 (rw not at found)
]

-- where nothing is found, nothing is left
pub found-none : {A : Type 0} (test : A → Bool) (xs : List A) → find test xs ≡ None → filter test xs ≡ []
found-none test [] none = refl
found-none test (x ∷ xs) none = let rest = found-none test xs in grind (arith, common_steps, gets)

-- those that are left stand above the one found
pub found-next : (after : Option MsgName) (names : List MsgName) (name : MsgName) → Rise names → find (is_above after) names ≡ Some name
    → filter (is_above after) names ≡ name ∷ filter (is_above (Some name)) names
found-next after [] name rise found = absurd (none-some name found)
found-next after (first ∷ names) name rise found =
    go (is_above after first) refl (λ more. found-next after names name rise.1 more) found
  where
    go : (b : Bool) → is_above after first ≡ b
        → (find (is_above after) names ≡ Some name → filter (is_above after) names ≡ name ∷ filter (is_above (Some name)) names)
        → cond b (Some first) (find (is_above after) names) ≡ Some name
        → cond b (first ∷ filter (is_above after) names) (filter (is_above after) names) ≡ name ∷ filter (is_above (Some name)) (first ∷ names)
    go true here rest h =
        let is = same_Some first name h in
        let left =
        all-true (is_above after) names (all-mapped (λ other. is_name_below first other ≡ true)
        (λ other. is_above after other ≡ true) names (λ other later. above-trans after first other here later) rise.0) in
        let behind = all-true (is_above (Some first)) names rise.0 in
        subst (λ other. first ∷ filter (is_above after) names ≡ other ∷ filter (is_above (Some other)) (first ∷ names)) is
        (ap (λ rest. first ∷ rest) (left ∙ sym (rw (not_below_itself first) behind)))
    go false here rest h =
        let later = found-all (λ other. is_name_below first other ≡ true) (is_above after) names name rise.0 h in
        rw (below-not_back first name later) (rest h)

all-left : {A : Type 0} (xs : List A) → filter (λ _. true) xs ≡ xs
all-left [] = refl
all-left (x ∷ xs) = ap (λ rest. x ∷ rest) (all-left xs)

module _ {A : Type 0} (shown : MsgName → List A) (names : List MsgName) (before : List A) where
  -- before the first look
  pub none-looked : (items : List A) → items ≡ before → items ++ flat_map shown (filter (is_above None) names) ≡ before ++ flat_map shown names
  none-looked items is = rw is (ap (λ left. before ++ flat_map shown left) (all-left names))

  -- a look that finds a name
  pub one-looked : (after : Option MsgName) (items : List A) (name : MsgName) → Rise names → find (is_above after) names ≡ Some name
      → items ++ flat_map shown (filter (is_above after) names) ≡ before ++ flat_map shown names
      → (items ++ shown name) ++ flat_map shown (filter (is_above (Some name)) names) ≡ before ++ flat_map shown names
  one-looked after items name rise found so_far =
      append_assoc items (shown name) (flat_map shown (filter (is_above (Some name)) names))
      ∙ ap (λ left. items ++ flat_map shown left) (sym (found-next after names name rise found)) ∙ so_far

  -- a look that finds none
  pub all-looked : (after : Option MsgName) (items : List A) → find (is_above after) names ≡ None
      → items ++ flat_map shown (filter (is_above after) names) ≡ before ++ flat_map shown names → items ≡ before ++ flat_map shown names
  all-looked after items none so_far =
      sym (append-nil items) ∙ ap (λ left. items ++ flat_map shown left) (sym (found-none (is_above after) names none)) ∙ so_far

-- fewer names are left after each
pub fewer-left : (after : Option MsgName) (names : List MsgName) (name : MsgName) → Rise names → find (is_above after) names ≡ Some name
    → length (filter (is_above (Some name)) names) < length (filter (is_above after) names)
fewer-left after names name rise found = let fewer = ap length (found-next after names name rise found) in omega (arith, fewer)

-- process after process
pub flat_map-more : {A : Type 0} (shown : ℕ → List A) (a n : ℕ)
    → flat_map shown (range_with_len a (n + 1)) ≡ flat_map shown (range_with_len a n) ++ shown (a + n)
flat_map-more shown a n =
    ap (flat_map shown) (simp map-id at (map-range_with_len_more (λ (k : ℕ). k) a n (a + n) refl))
    ∙ sym (flat_map_more shown [] (range_with_len a n) (a + n))
