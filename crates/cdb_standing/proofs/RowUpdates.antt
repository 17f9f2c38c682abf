-- A table with one row set.
use Rattle.std.proofs.lemmas.Grind.{common_steps}
use Rattle.std.proofs.Common.{◌≡◌, ◌≢◌, ℕ, zero, suc, ◌+◌, ◌-◌, ◌<◌, ◌≤◌, List, [], ◌∷◌, ◌++◌, Vec, length, set, slice_get, length-set}
use Rattle.std.proofs.Common.{add-one, slice_index_or, Option, Some, Bor, refl, sym, ap, ◌∙◌, arith}
use Rattle.std.proofs.lemmas.Option.{gets, same_Some}
use Rattle.std.proofs.Math.Seq.{map-set_same}
use Rattle.std.proofs.lemmas.List.{map-set}
use Rattle.std.specs.Option.{option_copied, MatchOption}
use Rattle.std.specs.List.{HoldsAt}
use Rattle.std.specs.Prelude.{vec_len, vec_capacity}
use Rattle.cdb_standing.specs.Tables.{HasRoomIn, rows_in, row_of, IsPutOn, HasCopy, IsCopySet}
use Rattle.cdb_base.specs.Positions.{nth}
use Rattle.cdb_standing.specs.declared.tables.Copied.{Copied}
use Rattle.cdb_standing.specs.declared.tables.Sent.{Sent}

module _ {T Z : Type 0} where
  row_set : (table : List (Vec T Z)) (i : ℕ) (v : Vec T Z) → i < length table → row_of (rows_in (set table i v)) (suc i) ≡ v.items
  row_set table i v less = rw (map-set (λ (u : Vec T Z). u.items) table i v) (grind (arith, common_steps, gets))

  row_set_other : (table : List (Vec T Z)) (i : ℕ) (v : Vec T Z) (q : ℕ) → q ≢ suc i → row_of (rows_in (set table i v)) q ≡ row_of (rows_in table) q
  row_set_other table i v q other = rw (map-set (λ (u : Vec T Z). u.items) table i v) (grind (arith, common_steps, gets))

  rows_set_length : (table : List (Vec T Z)) (i : ℕ) (v : Vec T Z) → length (rows_in (set table i v)) ≡ length (rows_in table)
  rows_set_length table i v = grind (arith, common_steps, gets)

  pub rows_length : (table : List (Vec T Z)) → length (rows_in table) ≡ length table
  rows_length table = grind (arith, common_steps, gets)

  pub row_at : (table : List (Vec T Z)) (i : ℕ) (v : Vec T Z) → i < length table → v ≡ slice_index_or table i v → row_of (rows_in table) (suc i) ≡ v.items
  row_at table i v less is = grind (arith, common_steps, gets)

  pub rows_same : (table : List (Vec T Z)) (i : ℕ) (v w : Vec T Z) → i < length table
      → v ≡ slice_index_or table i v → w.items ≡ v.items → rows_in (set table i w) ≡ rows_in table
  rows_same table i v w less is same = map-set_same (λ (u : Vec T Z). u.items) table i w v (same ∙ ap (λ (u : Vec T Z). u.items) is)

  pub row_within : (table : List (Vec T Z)) (i : ℕ) → 0 < length (row_of (rows_in table) (suc i)) → i < length table
  row_within table i more = grind (arith, common_steps, gets)

  pub room_within : (table : List (Vec T Z)) (i : ℕ) (v : Vec T Z) → nth table (i + 1) ≡ Some v → i < length table
  room_within table i v at = grind (arith, common_steps, gets)

  set_at : (table : List (Vec T Z)) (i : ℕ) (v : Vec T Z) → i < length table → slice_get (set table i v) i ≡ Some v
  set_at table i v less = grind (arith, common_steps, gets)

  pub room_made : (table : List (Vec T Z)) (i : ℕ) (v : Vec T Z) → i < length table → vec_len v < vec_capacity v → HasRoomIn (set table i v) (i + 1)
  room_made table i v less room = rw add-one (record { row = v; at = set_at table i v less; room = room })

  pub put_set : (table : List (Vec T Z)) (i : ℕ) (v w : Vec T Z) (item : T) → i < length table → v ≡ slice_index_or table i v → w.items ≡ v.items ++ item ∷ []
      → IsPutOn (i + 1) (rows_in table) item (rows_in (set table i w))
  put_set table i v w item less is more =
      rw add-one
      (record {
        more = row_set table i w less ∙ more ∙ ap (λ l. l ++ item ∷ []) (sym (row_at table i v less is));
        others = row_set_other table i w;
        as_many = rows_set_length table i w;
      })

  pub taken_set : (table : List (Vec T Z)) (i : ℕ) (v w : Vec T Z) (item : T) → i < length table → v ≡ slice_index_or table i v → v.items ≡ w.items ++ item ∷ []
      → IsPutOn (i + 1) (rows_in (set table i w)) item (rows_in table)
  taken_set table i v w item less is more =
      rw add-one
      (record {
        more = row_at table i v less is ∙ more ∙ ap (λ l. l ++ item ∷ []) (sym (row_set table i w less));
        others = λ q other. sym (row_set_other table i w q other);
        as_many = sym (rows_set_length table i w);
      })

  pub item_at : (table : List (Vec T Z)) (i : ℕ) (v : Vec T Z) (k : ℕ) → i < length table
      → v ≡ slice_index_or table i v → 1 ≤ k → slice_get v.items (k - 1) ≡ nth (row_of (rows_in table) (i + 1)) k
  item_at table i v zero less is some = absurd (omega arith)
  item_at table i v (suc k) less is some =
      let e : suc k - 1 ≡ k = omega arith in
      let f : suc i ≡ i + 1 = omega arith in
      ap (slice_get v.items) e ∙ ap (λ row. slice_get row k) (sym (row_at table i v less is) ∙ ap (row_of (rows_in table)) f)

-- ---- an item that was looked up

pub got : {A : Type 0} (xs : List A) (k : ℕ) (x : A) → k < length xs → x ≡ slice_index_or xs k x → slice_get xs k ≡ Some x
got xs k x less is = grind (arith, common_steps, gets)

pub looked_up : {A : Type 0} (o : Option (Bor A)) (xs : List A) (k : ℕ)
    → MatchOption o (length xs ≤ k) (λ x. (k < length xs) × HoldsAt (λ y. x.now ≡ y) xs k) → option_copied o ≡ slice_get xs k
looked_up o xs k past = grind (arith, common_steps, gets)

-- ---- a list with one item set

pub get_set : {A : Type 0} (xs : List A) (j : ℕ) (x y : A) → slice_get xs j ≡ Some x → slice_get (set xs j y) j ≡ Some y
get_set xs j x y at = grind (arith, common_steps, gets)

pub get_set_other : {A : Type 0} (xs : List A) (i j : ℕ) (y : A) → j ≢ i → slice_get (set xs i y) j ≡ slice_get xs j
get_set_other xs i j y other = grind (arith, common_steps, gets)

-- ---- one copy set

module _ {Z : Type 0} (table : List (Vec Sent Z)) (i j t : ℕ) (copied : Copied) (v w : Vec Sent Z) (was : Sent)
    (less : i < length table) (is : v ≡ slice_index_or table i v) (within : j < length v.items) (was_is : was ≡ slice_index_or v.items j was)
    (s m to : ℕ) (s_is : s ≡ suc i) (m_is : m ≡ suc j) (to_is : to ≡ suc t) where
  abbrev with_copy : Sent
  with_copy = record { k = was.k; copies = set was.copies t copied }

  pub copy_set : HasCopy (rows_in table) s m to → w.items ≡ set v.items j with_copy → IsCopySet (rows_in table) s m to copied (rows_in (set table i w))
  copy_set has put =
      rw (s_is, m_is, to_is) (record {
        was = was;
        it = with_copy;
        was_sent = was_sent;
        is_sent = ap (λ row. slice_get row j) (row_set table i w less ∙ put) ∙ get_set v.items j was with_copy there;
        same_step = refl;
        same_length = length-set was.copies t copied;
        set = get_set was.copies t copy.0 copied (ap (λ (it : Sent). nth it.copies (suc t)) same ∙ copy.1.became);
        other_copies = λ other apart. grind (arith, common_steps, gets, get_set_other);
        other_messages = λ n apart. rw (row_set table i w less ∙ put, row_at table i v less is) (grind (arith, common_steps, gets, get_set_other));
        other_rows = λ r other. row_set_other table i w r other;
        as_many = rows_set_length table i w;
      })
    where
      copy : HasCopy (rows_in table) (suc i) (suc j) (suc t)
      copy = rw (s_is, m_is, to_is) at has

      there : slice_get v.items j ≡ Some was
      there = got v.items j was within was_is

      was_sent : nth (row_of (rows_in table) (suc i)) (suc j) ≡ Some was
      was_sent = ap (λ row. slice_get row j) (row_at table i v less is) ∙ there

      same : was ≡ copy.1.it
      same = same_Some was copy.1.it (sym was_sent ∙ copy.1.was_sent)
