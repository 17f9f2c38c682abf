-- Sets of names and of copies: that their orders are total, and what a set flag does to the set of a table.
use Rattle.std.proofs.lemmas.Grind.{common_steps}
use Rattle.std.proofs.lemmas.Option.{gets}
use Rattle.std.proofs.Common.{arith, ◌≡◌, true, false, ℕ, zero, suc, ◌+◌, ◌-◌, ◌*◌, ◌/◌, ◌%◌, ◌≤◌, Bool, ◌&&◌, List, length, nat_lt, refl, sym, ap, ◌∙◌}
use Rattle.std.specs.Prelude.{if◌then◌else◌}
use Rattle.std.specs.Ordering.{nat_cmp, ordering_then, eq_by_cmp}
use Rattle.std.specs.declared.cmp.Ordering.{Ordering}
use Rattle.std.specs.declared.cmp.Ordering.TheVariants.{Equal}
use Rattle.std.specs.Cmp.{IsTotalOrder, Equal-is, then_total, on_total, nat_cmp_total, eq_by_cmp_equiv}
use Rattle.cdb_message.specs.Names.{name_cmp, copy_cmp}
use Rattle.cdb_base.specs.declared.name.MsgName.{MsgName}
use Rattle.cdb_base.specs.declared.name.CopyName.{CopyName}
use Rattle.cdb_message.specs.Flags.{flag_in, SetsFlag, keys_below, name_at, copy_at}
use Rattle.std.specs.FinSet as set

-- ---- the orders

then-Equal : (a b : Ordering) → ordering_then a b ≡ Equal → (a ≡ Equal) × (b ≡ Equal)
then-Equal a b is = grind (arith, common_steps, gets)

pub name_cmp_total : IsTotalOrder name_cmp
name_cmp_total = then_total (on_total (λ n. n.s) nat_cmp_total) (on_total (λ n. n.m) nat_cmp_total)

pub name_cmp-IsAntisymmetric : set.IsAntisymmetric name_cmp
name_cmp-IsAntisymmetric x y h =
    let (s, m) = then-Equal (nat_cmp x.s y.s) (nat_cmp x.m y.m) h in
    λ i. record { s = set.nat_cmp-IsAntisymmetric x.s y.s s i; m = set.nat_cmp-IsAntisymmetric x.m y.m m i }

pub copy_cmp_total : IsTotalOrder copy_cmp
copy_cmp_total = then_total (on_total (λ c. c.msg) name_cmp_total) (on_total (λ c. c.to) nat_cmp_total)

pub copy_cmp-IsAntisymmetric : set.IsAntisymmetric copy_cmp
copy_cmp-IsAntisymmetric x y h =
    let (msg, to) = then-Equal (name_cmp x.msg y.msg) (nat_cmp x.to y.to) h in
    λ i. record { msg = name_cmp-IsAntisymmetric x.msg y.msg msg i; to = set.nat_cmp-IsAntisymmetric x.to y.to to i }

-- ---- sets

-- keys that tie are one
pub is_one : {K : Type 0} {R : K → K → Ordering} → set.IsAntisymmetric R → (q k : K) → eq_by_cmp R q k ≡ true → q ≡ k
is_one {R = R} antisymmetric q k tie = antisymmetric q k ((Equal-is (R q k)).0 tie)

module _ {K : Type 0} {R : K → K → Ordering} (total : IsTotalOrder R) (antisymmetric : set.IsAntisymmetric R) where
  -- what joins a set and leaves it again
  pub remove-insert : (s : set.FinSet R) (k : K) → set.contains s k ≡ false → set.remove (set.insert s k) k ≡ s
  remove-insert s k h =
      set.same_set total antisymmetric _ _ (λ q.
      let removed = set.contains-remove total (set.insert s k) k q in
      let added = set.contains-insert total s k q in
      let one = is_one antisymmetric q k in
      grind (arith, common_steps, gets))

-- keys that tie are one, and each cell is that of the key that it has
pub record IsTable {K : Type 0} (R : K → K → Ordering) (cell : K → ℕ) (key_at : ℕ → K) : Type 0 where
  pub total : IsTotalOrder R
  pub antisymmetric : set.IsAntisymmetric R
  pub cell_at : (n : ℕ) → cell (key_at n) ≡ n

module _ {K : Type 0} {R : K → K → Ordering} {cell : K → ℕ} {key_at : ℕ → K} (is_table : IsTable R cell key_at) where
  abbrev keys_in : List Bool → set.FinSet R
  keys_in flags = keys_below key_at flags (length flags)

  ties : (k : K) → eq_by_cmp R k k ≡ true
  ties k = (eq_by_cmp_equiv is_table.total).refl k

  -- a key of a cell is in the set where the flag in its cell is set
  has_key : (flags : List Bool) (q : K) (n : ℕ)
      → set.contains (keys_below {R = R} key_at flags n) q
      ≡ (eq_by_cmp R q (key_at (cell q)) && (nat_lt (cell q) n && flag_in flags (cell q)))
  has_key flags q zero = grind (arith, common_steps, gets, set.contains-empty R q)
  has_key flags q (suc n) =
      let before = has_key flags q n in
      let added = set.contains-insert is_table.total (keys_below {R = R} key_at flags n) (key_at n) q in
      let one = is_one is_table.antisymmetric q (key_at n) in
      let at = is_table.cell_at n in
      grind (arith, common_steps, gets)

  contains-keys : (flags : List Bool) (q : K)
      → set.contains (keys_in flags) q ≡ (eq_by_cmp R q (key_at (cell q)) && flag_in flags (cell q))
  contains-keys flags q = has_key flags q (length flags) ∙ grind (arith, common_steps, gets)

  same_set : (s t : set.FinSet R) → ((q : K) → set.contains s q ≡ set.contains t q) → s ≡ t
  same_set = set.same_set is_table.total is_table.antisymmetric

  pub same_keys : (old new : List Bool) → ((n : ℕ) → flag_in new n ≡ flag_in old n) → keys_in new ≡ keys_in old
  same_keys old new same = same_set _ _ (λ q. contains-keys new q ∙ rw (same (cell q)) (sym (contains-keys old q)))

  -- a cell and its key
  module _ (n : ℕ) {k : K} (named : key_at n ≡ k) where
    at : cell k ≡ n
    at = ap cell (sym named) ∙ is_table.cell_at n

    -- the flag says whether the key is in the set
    pub contains_key : (flags : List Bool) → flag_in flags n ≡ set.contains (keys_in flags) k
    contains_key flags = sym (contains-keys flags k ∙ rw (at, named, ties k) refl)

    -- a flag that is set adds the key, one that is cleared takes it out
    pub key_changed : (old new : List Bool) (flag : Bool) → SetsFlag old new n flag
        → keys_in new ≡ (if flag then set.insert (keys_in old) k else set.remove (keys_in old) k)
    key_changed old new flag sets =
        same_set _ _ (λ q.
        let one = is_one is_table.antisymmetric q k in
        let tie = ties k in
        let here = at in
        let inserted = set.contains-insert is_table.total (keys_in old) k q in
        let removed = set.contains-remove is_table.total (keys_in old) k q in
        let was = contains-keys old q in
        contains-keys new q ∙ rw (sets (cell q)) (grind (arith, common_steps, gets)))

-- ---- of names and of copies

pub names : IsTable name_cmp (λ name. name.m * 9 + (name.s - 1)) name_at
names = record { total = name_cmp_total; antisymmetric = name_cmp-IsAntisymmetric; cell_at = λ n. omega arith }

pub copies : IsTable copy_cmp (λ copy. (copy.msg.m * 9 + (copy.msg.s - 1)) * 9 + (copy.to - 1)) copy_at
copies = record { total = copy_cmp_total; antisymmetric = copy_cmp-IsAntisymmetric; cell_at = λ n. omega arith }

pub name_itself : (name : MsgName) (i : ℕ) → i + 1 ≡ name.s → i ≤ 8 → name_at (name.m * 9 + i) ≡ name
name_itself name i position low =
    let s : (name.m * 9 + i) % 9 + 1 ≡ name.s = omega arith in
    let m : (name.m * 9 + i) / 9 ≡ name.m = omega arith in
    λ j. record { s = s j; m = m j }

pub copy_itself : (copy : CopyName) (n i : ℕ) → name_at n ≡ copy.msg → i + 1 ≡ copy.to → i ≤ 8
    → copy_at (n * 9 + i) ≡ copy
copy_itself copy n i named position low =
    let cell : (n * 9 + i) / 9 ≡ n = omega arith in
    let msg = ap name_at cell ∙ named in
    let to : (n * 9 + i) % 9 + 1 ≡ copy.to = omega arith in
    λ j. record { msg = msg j; to = to j }
