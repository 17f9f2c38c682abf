-- Reading the values of an array one after the other.
use Rattle.std.proofs.lemmas.Grind.{common_steps}
use Rattle.std.proofs.lemmas.Option.{gets, slice_get_read, slice_get-map}
use Rattle.std.proofs.Common.{◌≡◌, ℕ, ◌+◌, ◌<◌, List, [], ◌∷◌, ◌++◌, length, get_or, map, take, Some, refl, ap, ◌∙◌, arith}
use Rattle.std.specs.List.{AllByRecursion}
use Rattle.std.specs.Prelude.{slice_get, option_map}
use Rattle.serde_json.specs.Data.{Data}
use Rattle.serde_json.specs.View.{view}
use Rattle.serde_json.specs.declared.value.Value.{Value}
use Rattle.cdb_setup.specs.Parts.{IsWithin}
use Rattle.cdb_setup.specs.Format.{whole, array_of_whole}
use Rattle.cdb_setup.specs.Faults.{IsWholeWithin}
use Rattle.cdb_setup.specs.Readings.{IsFirstNot, IsRead, AreRead, IsAnswerList}

-- one more value is read
push_read : {A : Type 0} (form : A → Data) (values : List Data) (parts : List A) (i : ℕ) (part : A)
    → slice_get values i ≡ Some (form part) → take i values ≡ map form parts
    → take (i + 1) values ≡ map form (parts ++ part ∷ [])
push_read form values parts i part there read = grind (arith, common_steps, gets)

pub push_all : {A : Type 0} (P : A → Type 0) (parts : List A) (part : A) → AllByRecursion P parts → P part → AllByRecursion P (parts ++ part ∷ [])
push_all P parts part all one = grind (arith, common_steps, gets)

-- what holds of each holds of the one at a position
pub all_at : {A : Type 0} (P : A → Type 0) (xs : List A) (k : ℕ) (x : A) → AllByRecursion P xs → slice_get xs k ≡ Some x → P x
all_at P xs k x all there = grind (arith, common_steps, gets)

-- what is written of each part
written : {A : Type 0} (P : A → Type 0) (Q : Data → Type 0) (form : A → Data) → ((part : A) → P part → Q (form part))
    → (parts : List A) → AllByRecursion P parts → AllByRecursion Q (map form parts)
written P Q form one [] all = tt
written P Q form one (part ∷ parts) all = (one part all.0, written P Q form one parts all.1)

-- numbers in range are written so
pub within_written : (low high : ℕ) (numbers : List ℕ) → AllByRecursion (IsWithin low high) numbers
    → AllByRecursion (IsWholeWithin low high) (map whole numbers)
within_written low high = written (IsWithin low high) (IsWholeWithin low high) whole (λ n within. (n, refl, within))

-- lists of answers in range are written so
pub lists_written : (n : ℕ) (lists : List (List ℕ)) → AllByRecursion (AllByRecursion (IsWithin 1 n)) lists
    → AllByRecursion (IsAnswerList n) (map array_of_whole lists)
lists_written n = written (AllByRecursion (IsWithin 1 n)) (IsAnswerList n) array_of_whole (λ answers all. (answers, refl, all))

-- what a loop reads at a position stands there
pub reads_value : {A B : Type 0} (seen : A → B) (items : List A) (i : ℕ) (item : A) → i < length items
    → item ≡ get_or items i item → slice_get (map seen items) i ≡ Some (seen item)
reads_value seen items i item below read = slice_get-map seen items i ∙ ap (option_map seen) (slice_get_read items (length items) i item refl below read)

-- one number more is read, or the reading stops
module _ (low high : ℕ) (values : List Value) (i : ℕ) (value : Value) (numbers : List ℕ)
    (below : i < length values) (is : value ≡ get_or values i value) (read : AreRead low high (take i (map view values)) numbers) where
  there : slice_get (map view values) i ≡ Some (view value)
  there = reads_value view values i value below is

  pub one_more : (n : ℕ) → IsRead low high (view value) n → AreRead low high (take (i + 1) (map view values)) (numbers ++ n ∷ [])
  one_more n one = (
    push_read whole (map view values) numbers i n (rw (← one.0) there) read.0,
    push_all (IsWithin low high) numbers n read.1 one.1,
  )

  pub stops : ¬ IsWholeWithin low high (view value) → IsFirstNot (IsWholeWithin low high) (map view values) i
  stops not_so =
      record { before = rw read.0 (within_written low high numbers read.1); value = view value; there = there; not_so = not_so }

-- the lists that were read are lists of answers
pub lists_before : (n i : ℕ) (values : List Data) (lists : List (List ℕ)) → take i values ≡ map array_of_whole lists
    → AllByRecursion (AllByRecursion (IsWithin 1 n)) lists
    → AllByRecursion (IsAnswerList n) (take i values)
lists_before n i values lists read within = rw read (lists_written n lists within)
