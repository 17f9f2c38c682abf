-- The lists of accesses: where a step comes or goes, where a mark parts them, and which steps are on them.
use Rattle.std.proofs.lemmas.Grind.{common_steps}
use Rattle.std.proofs.Common.{◌≡◌, ℕ, zero, suc, ◌+◌, ◌<◌, ◌≤◌, Bool, cond, nat_eq, ◌&&◌, eqb-true, eq-eqb, List, [], ◌∷◌, ◌++◌, length, slice_get}
use Rattle.std.proofs.Common.{Option, Some, None, inl, refl, sym, ◌∙◌, append-nil, arith, true, false}
use Rattle.std.proofs.lemmas.Option.{none-some, slice_get_within, get_or_from_slice_get, slice_get-get_or, gets}
use Rattle.cdb_base.specs.declared.event.Kind.{Kind}
use Rattle.cdb_standing.specs.Accesses.{is_that, access_of, listed_at, listed, cell, AreListed, IsListedAt, IsUnlistedAt, IsRegisterOf, IsRisingBy}
use Rattle.cdb_standing.specs.Accesses.{IsFirstBehind, IsSplitAt, IsLastBefore}
use Rattle.cdb_standing.specs.InOrder.{Has}
use Rattle.cdb_standing.specs.Tables.{row_of, steps_of, entry_of, IsPutOn, IsEntry, IsSound}
use Rattle.cdb_standing.specs.declared.tables.Access.{Access}
use Rattle.cdb_standing.specs.declared.tables.Entry.{Entry}
use Rattle.cdb_standing.proofs.Ordered.{at_has, has_at, each_only, each_has, each_push, pairwise_each, pairwise_at}
use Rattle.std.proofs.lemmas.List.Sums.{sum_by-cons}
use Rattle.std.specs.List.{count_by}
use Rattle.std.specs.List.Sorted.{IsPartitionPoint, IsNonDecreasingBy}
use Rattle.cdb_standing.specs.Counts.{is_before}
use Rattle.cdb_standing.specs.declared.tables.Tables.{Tables}
use Rattle.cdb_base.specs.declared.event.Event.TheVariants as event

-- ---- one row

module _ (of : Kind → Option ℕ) (n : ℕ) where
  listed_here : (k : ℕ) (entry : Entry) (it : Access) → Has (listed_at of n k entry) it → (of entry.kind ≡ Some n) × (it ≡ access_of entry.mark k)
  listed_here k entry it h = grind (arith, common_steps, eqb-true)

  pub listed_only : (k : ℕ) (row : List Entry) (it : Access) → Has (listed of n k row) it
      → (i : ℕ) × (entry : Entry) × (slice_get row i ≡ Some entry) × (of entry.kind ≡ Some n) × (it ≡ access_of entry.mark (k + i))
  listed_only k row it h = grind (arith, common_steps, gets, each_only, listed_here)

  pub listed_has : (k : ℕ) (row : List Entry) (i : ℕ) (entry : Entry) → slice_get row i ≡ Some entry
      → of entry.kind ≡ Some n → Has (listed of n k row) (access_of entry.mark (k + i))
  listed_has k row i entry at is = each_has (listed_at of n) k row (access_of entry.mark (k + i)) i entry at (rw (is, eq-eqb n n refl) (inl refl))

  -- the marks of a row rise
  abbrev pub IsRisingRow : List Entry → Type 0
  IsRisingRow row = (i j : ℕ) (one other : Entry) → slice_get row i ≡ Some one → slice_get row j ≡ Some other → i < j → one.mark < other.mark

  pub listed_rising : (row : List Entry) → IsRisingRow row → IsRisingBy (listed of n 1 row)
  listed_rising row rising =
      pairwise_each (λ (a b : Access). a.mark < b.mark) (listed_at of n) row (λ i x at. grind arith)
      (λ i j x y a b less at_i at_j p q.
      let one = listed_here (suc i) x a p in let other = listed_here (suc j) y b q in let up = rising i j x y at_i at_j less in grind arith)

-- ---- the table

same_cell : (p q n m : ℕ) → 1 ≤ p → 1 ≤ q → n < 11 → m < 11 → cell p n ≡ cell q m → (p ≡ q) × (n ≡ m)
same_cell p q n m low low' less less' e = (omega arith, omega arith)

-- what the list of process q and register n has more, where process p accesses the register that is given
abbrev more : Option ℕ → ℕ → Access → ℕ → ℕ → List Access
more o p access q n = cond (nat_eq q p && is_that o n) (access ∷ []) []

-- a list without that
same_front : (b : Bool) (xs ys : List Access) (x y : Access) → xs ++ cond b (x ∷ []) [] ≡ ys ++ cond b (y ∷ []) [] → xs ≡ ys
same_front b xs ys x y e = grind (arith, common_steps, gets, append-nil)

lists_grown : {p : ℕ} (from_one : 1 ≤ p) (o : Option ℕ) (access : Access) (old new : List (List Access)) → ((m : ℕ) → o ≡ Some m → m < 11)
    → IsListedAt o p access old new
    → (length new ≡ length old) × ((q n : ℕ) → 1 ≤ q → n < 11 → row_of new (cell q n) ≡ row_of old (cell q n) ++ more o p access q n)
lists_grown from_one o access old new few grown = grind (arith, common_steps, same_cell, append-nil, eqb-true, eq-eqb)

unlisted : (p : ℕ) (o : Option ℕ) (old new : List (List Access)) → IsUnlistedAt o p old new → (access : Access) × IsListedAt o p access new old
unlisted p None old new same = (access_of 0 0, sym same)
unlisted p (Some n) old new less = less

rows_grown : (of : Kind → Option ℕ) {mark p : ℕ} (k : ℕ) {kind : Kind} {low high : List (List Entry)} → IsPutOn p low (entry_of mark kind) high
    → k ≡ length (row_of low p) + 1 → 1 ≤ p → (q n : ℕ)
    → listed of n 1 (row_of high q) ≡ listed of n 1 (row_of low q) ++ more (of kind) p (access_of mark k) q n
rows_grown of k put number from_one q n = grind (arith, common_steps, append-nil, eqb-true, eq-eqb, each_push)

module _ (of : Kind → Option ℕ) {mark p : ℕ} (k : ℕ) {kind : Kind} {low high : Tables} (put : IsPutOn p (steps_of low) (entry_of mark kind) (steps_of high))
    (number : k ≡ length (row_of (steps_of low) p) + 1) (from_one : 1 ≤ p) (register : IsRegisterOf of kind) where
  pub list_more : {old : List (List Access)} (new : List (List Access)) → AreListed of old low
      → IsListedAt (of kind) p (access_of mark k) old new → AreListed of new high
  list_more {old} new lists grown =
      let is = lists_grown from_one (of kind) (access_of mark k) old new register grown in
      record {
        count = is.0 ∙ lists.count;
        each = λ q n one nine less. is.1 q n one less ∙ rw (lists.each q n one nine less) (sym (rows_grown of k put number from_one q n));
      }

  pub list_less : {old : List (List Access)} (new : List (List Access)) → AreListed of old high → IsUnlistedAt (of kind) p old new → AreListed of new low
  list_less {old} new lists shrunk =
      let was = unlisted p (of kind) old new shrunk in
      let is = lists_grown from_one (of kind) was.0 new old register was.1 in
      record {
        count = sym is.0 ∙ lists.count;
        each = λ q n one nine less.
            same_front (nat_eq q p && is_that (of kind) n) (row_of new (cell q n)) (listed of n 1 (row_of (steps_of low) q)) was.0 (access_of mark k)
            (sym (is.1 q n one less) ∙ lists.each q n one nine less ∙ rows_grown of k put number from_one q n);
      }

rising_le : (xs : List Access) → IsRisingBy xs → (i j : ℕ) (one other : Access) → slice_get xs i ≡ Some one → slice_get xs j ≡ Some other
    → i ≤ j → one.mark ≤ other.mark
rising_le xs rising i j one other at_i at_j le =
    grind (arith, pairwise_at (λ (a b : Access). a.mark < b.mark) xs i j one other rising at_i at_j)

-- ---- where a list is parted

pub rises : (xs : List Access) → IsRisingBy xs → IsNonDecreasingBy (λ (a : Access). a.mark) xs
rises xs rising i j d le less =
    rising_le xs rising i j _ _ (slice_get-get_or xs i d (omega arith)) (slice_get-get_or xs j d less) le

module _ (xs : List Access) (mark : ℕ) (test : Access → Bool)
    (low : (a : Access) → test a ≡ true → a.mark < mark) (high : (a : Access) → test a ≡ false → mark ≤ a.mark) where
  pub split_at : {n : ℕ} → n ≤ length xs → IsPartitionPoint (λ a. test a ≡ true) (λ a. test a ≡ false) xs n → IsSplitAt xs mark n
  split_at within point =
      record {
        within = within;
        before = λ i it at less. rw (get_or_from_slice_get xs i it it at) at (low _ (point.0 i it (omega arith) less));
        behind = λ i it at past. rw (get_or_from_slice_get xs i it it at) at (high _ (point.1 i it past (slice_get_within xs i it at)));
      }

-- the number of accesses with lower marks
pub split_counts : (mark : ℕ) (xs : List Access) (n : ℕ) → IsSplitAt xs mark n → count_by (is_before mark) xs ≡ n
split_counts mark [] n split = let within = split.within in omega arith
split_counts mark (x ∷ xs) zero split =
    let here = split.behind 0 x refl (omega arith) in
    let rest = split_counts mark xs 0 (record {
      within = omega arith;
      before = λ i it at less. absurd (omega arith);
      behind = λ i it at past. split.behind (suc i) it at (omega arith);
    }) in
    grind (arith, common_steps, sum_by-cons)
split_counts mark (x ∷ xs) (suc n) split =
    let here = split.before 0 x refl (omega arith) in
    let within = split.within in
    let rest = split_counts mark xs n (record {
      within = omega arith;
      before = λ i it at less. split.before (suc i) it at (omega arith);
      behind = λ i it at past. split.behind (suc i) it at (omega arith);
    }) in
    grind (arith, common_steps, sum_by-cons)

module _ {xs : List Access} {n : ℕ} (rising : IsRisingBy xs) (mark : ℕ) where
  -- the first behind the mark
  module _ (split : IsSplitAt xs (mark + 1) n) where
    pub first_found : (it : Access) → slice_get xs n ≡ Some it → IsFirstBehind xs mark it
    first_found it at = grind (arith, common_steps, gets, at_has, has_at, rising_le xs rising)

    pub none_found : length xs ≤ n → (other : Access) → Has xs other → other.mark ≤ mark
    none_found past other h = grind (arith, common_steps, gets, has_at, slice_get_within)

  -- the last before it
  module _ (split : IsSplitAt xs mark n) where
    pub last_found : (i : ℕ) → i + 1 ≡ n → (it : Access) → slice_get xs i ≡ Some it → IsLastBefore xs mark it
    last_found i e it at = let before = split.before i it at in let behind = split.behind in grind (arith, at_has, has_at, rising_le xs rising)

    pub none_before : n ≤ 0 → (other : Access) → Has xs other → mark ≤ other.mark
    none_before none other h = let found = has_at xs other h in split.behind found.0 other found.1 (omega arith)

-- ---- the steps that are on a list

module _ {t : Tables} (sound : IsSound t) where
  pub row_rising : (p i j : ℕ) (one other : Entry) → slice_get (row_of (steps_of t) p) i ≡ Some one
      → slice_get (row_of (steps_of t) p) j ≡ Some other → i < j → one.mark < other.mark
  row_rising p i j one other at_i at_j less =
      sound.marked.first one.mark other.mark (event.Step p (suc i) one.kind) (event.Step p (suc j) other.kind) at_i at_j (inl (refl, omega arith))

  pub list_rising : {of : Kind → Option ℕ} {table : List (List Access)} → AreListed of table t → (q n : ℕ) → 1 ≤ q → q ≤ 9 → n < 11
      → IsRisingBy (row_of table (cell q n))
  list_rising {of} lists q n one nine few = rw (lists.each q n one nine few) (listed_rising of n (row_of (steps_of t) q) (row_rising q))

module _ {of : Kind → Option ℕ} {table : List (List Access)} {t : Tables}
    (lists : AreListed of table t) (s n : ℕ) (one : 1 ≤ s) (nine : s ≤ 9) (few : n < 11) where
  pub is_listed : (j mark : ℕ) (kind : Kind) → IsEntry t s j mark kind → of kind ≡ Some n → Has (row_of table (cell s n)) (access_of mark j)
  is_listed zero mark kind at is = absurd (none-some (entry_of mark kind) at)
  is_listed (suc i) mark kind at is =
      let e : 1 + i ≡ suc i = omega arith in
      rw (lists.each s n one nine few, ← e) (listed_has of n 1 (row_of (steps_of t) s) i (entry_of mark kind) at is)

  pub listed_is : (access : Access) → Has (row_of table (cell s n)) access → (kind : Kind) × IsEntry t s access.k access.mark kind × (of kind ≡ Some n)
  listed_is access h = grind (arith, common_steps, gets, listed_only)
