-- What encodes a setup has no fault and encodes no other, and what is read of other bytes is their first fault.
use Rattle.std.proofs.Common.{arith, ◌≡◌, ◌≢◌, ℕ, List, [], ◌∷◌, length, map, refl, ap₂, zero, suc, ◌+◌, ◌<◌, take, Some, sym, ◌∙◌, subst, inl, inr, add-one}
use Rattle.std.proofs.Common.{Bool, true, false, cond, Option, String, Global, string_bytes, bytes_eq, ◌⊎◌, ◌≤◌, ap, ◌==◌}
use Rattle.std.proofs.lemmas.Grind.{common_steps}
use Rattle.std.proofs.lemmas.Option.{gets}
use Rattle.cdb_setup.specs.Parts.{Parts}
use Rattle.serde_json.specs.Data.{Data, object, Members, string}
use Rattle.serde_json.specs.View.{items_of, view, members_view}
use Rattle.cdb_setup.specs.declared.key.Key.{Key}
use Rattle.cdb_setup.specs.Format.{whole, array_of, array_of_whole, HasAt, name_of, HasAlgorithm, HasKnownKeys, algorithm_name, HasVersion, IsSetupOf, IsJsonOf}
use Rattle.cdb_setup.specs.Format.{Encodes, longest}
use Rattle.cdb_setup.specs.Faults.{IsCount, HasOneEach, Holds, IsWholeWithin, HoldsOf}
use Rattle.std.specs.Prelude.{slice_get, MatchOption, is_none, find, Result, Ok, Err, IfOk, IfErr, Decides}
use Rattle.std.specs.List.{AllByRecursion, list_all, list_any}
use Rattle.std.proofs.lemmas.Bool.{cases_lt, cases_Bool, cases_eq, and_parts}
use Rattle.cdb_base.specs.Limits.{MAX_VALUE}
use Rattle.cdb_setup.specs.declared.fault.SetupFault.{SetupFault}
use Rattle.cdb_setup.specs.declared.fault.SetupFault.TheVariants.{BadInput, BadOracle, BadVersion, NotJson, NotObject, UnknownKey, Missing, BadAlgorithm}
use Rattle.cdb_setup.specs.declared.fault.SetupFault.TheVariants.{TooLong, NoMemory, BadCount, BadQuorum}
use Rattle.cdb_setup.specs.Order.{IsLookedForBefore, rank, key_number, IsFirstFault}
use Rattle.cdb_setup.specs.Readings.{IsFirstOfRank, HasNeededKeys, IsFirstMissing, IsFirstOf, IsClearBelow, IsFirstNot, IsAnswerList, IsFirstOfInputs}
use Rattle.cdb_setup.specs.Readings.{IsFirstOfLists, ChecksKeys, HasInputs, HasAnswers, IsVersion, is_key_name}
use Rattle.cdb_setup.proofs.Walk.{all_at, within_written, lists_written}
use Rattle.std.specs.Map.{keys_of}
use Rattle.std.proofs.lemmas.Slice.Eq.{bytes_eq-Decides}
use Rattle.serde_json.specs.Find.{get, get_member}
use Rattle.serde_json.proofs.Views.{Entry, member_here, member_later}
use Rattle.cdb_setup.specs.declared.keys.TheConstants.{ALL}
use Rattle.std.proofs.lemmas.List.{length-map}
use Rattle.cdb_setup.specs.declared.setup.Algorithm.{Algorithm}
use Rattle.cdb_base.specs.Memory.{no_memory}
use Rattle.std.specs.Cmp.{unsigned_Decides}
use Rattle.std.specs.Cmp.Lexicographic.{pointwise, pointwise_decides}
use Rattle.cdb_setup.specs.Equal.{algorithm_number, are_equal, are_equal_equiv}
use Rattle.cdb_setup.specs.declared.key.Key.TheVariants as key
use Rattle.cdb_setup.specs.declared.fault.SetupFault.TheVariants as faults

-- ---- Parts of a setup are equal where each of their fields is.

pub same_fields : (s t : Parts)
    → s.version ≡ t.version → s.algorithm ≡ t.algorithm → s.processes ≡ t.processes → s.quorum ≡ t.quorum → s.inputs ≡ t.inputs → s.answers ≡ t.answers → s ≡ t
same_fields s t version algorithm processes quorum inputs answers = grind (arith, common_steps, gets)

-- ---- A JSON value is one array, one whole number and one text at most.

items_same : (xs ys : List Data) → items_of xs ≡ items_of ys → xs ≡ ys
items_same [] [] e = refl
items_same [] (y ∷ ys) e = cc
items_same (x ∷ xs) [] e = cc
items_same (x ∷ xs) (y ∷ ys) e =
    let tails : items_of xs ≡ items_of ys = cc in
    let rest = items_same xs ys tails in cc

-- an array has one list of values
pub array_same : (xs ys : List Data) → array_of xs ≡ array_of ys → xs ≡ ys
array_same xs ys e = items_same xs ys cc

-- lists are equal where they are written so, in a form that tells its values apart
pub same_written : {A : Type 0} (form : A → Data) → ((x y : A) → form x ≡ form y → x ≡ y) → (xs ys : List A) → map form xs ≡ map form ys → xs ≡ ys
same_written form apart [] [] e = refl
same_written form apart [] (y ∷ ys) e = cc
same_written form apart (x ∷ xs) [] e = cc
same_written form apart (x ∷ xs) (y ∷ ys) e =
    let heads : form x ≡ form y = cc in
    let tails : map form xs ≡ map form ys = cc in
    ap₂ (λ first rest. first ∷ rest) (apart x y heads) (same_written form apart xs ys tails)

-- an array has one list of whole numbers
pub whole_same : (xs ys : List ℕ) → array_of_whole xs ≡ array_of_whole ys → xs ≡ ys
whole_same xs ys e = same_written whole (λ x y is. cc) xs ys (array_same (map whole xs) (map whole ys) e)

-- a value names one number of processes
pub count_same : (m n : ℕ) (json : Data) → IsCount m json → IsCount n json → m ≡ n
count_same m n json a b = let first = a.0 in let second = b.0 in cc

-- where an array of another length stands, there is not one value for each process
pub no_one_each : (key : Key) (values : List Data) (n : ℕ) (json : Data) → IsCount n json → HasAt key (array_of values) json → length values ≢ n
    → (others : List Data) → ¬ HasOneEach key others json
no_one_each key values n json count at differs others each =
    let there = each.0 in
    let equal : array_of others ≡ array_of values = cc in
    differs (rw (← array_same others values equal) (count_same (length others) n json each.1 count))

-- ---- Which faults come before a fault, rank after rank.

-- a value before the first that isn't so is so
before_is_so : (P : Data → Type 0) (values : List Data) (i j : ℕ) (value : Data) → AllByRecursion P (take i values) → j < i
    → slice_get values j ≡ Some value → P value
before_is_so P values i j value all below there = grind (arith, common_steps, gets)

-- what stands under a key is one list of values
one_list : (key : Key) (theirs values : List Data) (json : Data) → HasOneEach key theirs json → HasOneEach key values json → theirs ≡ values
one_list key theirs values json a b = grind (arith, common_steps, gets, array_same)

-- ---- inputs

module _ (values : List Data) (json : Data) (each : HasOneEach key.Inputs values json) where
  -- no input is a fault where it is one in range
  pub sound_input : (i : ℕ) → ((value : Data) → slice_get values i ≡ Some value → IsWholeWithin 0 MAX_VALUE value) → ¬ Holds (BadInput (suc i)) json
  sound_input i sound holds =
      holds.4 (sound holds.1 (rw (one_list key.Inputs holds.0 values json holds.2 each) at holds.3))

  module _ (i : ℕ) (stop : IsFirstNot (IsWholeWithin 0 MAX_VALUE) values i) where
    -- no input before the first that is none is a fault
    inputs_before : (other : SetupFault) → rank other ≡ 8 → IsLookedForBefore other (BadInput (suc i)) → ¬ Holds other json
    inputs_before (BadInput zero) at before holds = holds values each
    inputs_before (BadInput (suc j)) at before holds =
        sound_input j (λ value there. before_is_so (IsWholeWithin 0 MAX_VALUE) values i j value stop.before (omega arith) there) holds
    inputs_before other at before holds = absurd (omega arith)

    input_first : IsFirstOfRank 8 (BadInput (i + 1)) json
    input_first = rw add-one (record { in_rank = refl; holds = (values, stop.value, each, stop.there, stop.not_so); first = inputs_before })

  pub inputs_first : (fault : SetupFault) → IsFirstOfInputs values fault → IsFirstOfRank 8 fault json
  inputs_first fault stop = rw stop.1 (input_first stop.0 stop.2)

-- ---- the oracle

-- a value of a list of answers is an answer
answer_in : (n : ℕ) (list : Data) (answers : List Data) (k : ℕ) (answer : Data) → IsAnswerList n list
    → list ≡ array_of answers → slice_get answers k ≡ Some answer → IsWholeWithin 1 n answer
answer_in n list answers k answer is same there =
    let equal : array_of answers ≡ array_of (map whole is.0) = let a = is.1 in cc in
    let one : answers ≡ map whole is.0 = array_same answers (map whole is.0) equal in
    all_at _ (map whole is.0) k answer (within_written 1 n is.0 is.2) (rw one at there)

-- the list is no array, or its k-th answer is none of n processes
abbrev IsBadAt : ℕ → ℕ → Data → Type 0
IsBadAt n zero list = (answers : List Data) → list ≢ array_of answers
IsBadAt n (suc k) list =
    (answers : List Data) × (answer : Data) × (list ≡ array_of answers) × (slice_get answers k ≡ Some answer) × ¬ IsWholeWithin 1 n answer

not_bad : (n k : ℕ) (list : Data) → IsAnswerList n list → ¬ IsBadAt n k list
not_bad n zero list is bad = bad (map whole is.0) is.1
not_bad n (suc k) list is (answers, answer, same, there, wrong) = wrong (answer_in n list answers k answer is same there)

module _ (lists : List Data) (json : Data) (each : HasOneEach key.Oracle lists json) where
  -- a fault of a list is one of these lists
  bad_list : (p k : ℕ) → Holds (BadOracle (suc p) k) json → (list : Data) × (slice_get lists p ≡ Some list) × IsBadAt (length lists) k list
  bad_list p zero holds = (holds.1, rw (one_list key.Oracle holds.0 lists json holds.2 each) at holds.3, holds.4)
  bad_list p (suc k) holds =
      let same = one_list key.Oracle holds.0 lists json holds.3 each in
      (array_of holds.1, rw same at holds.4, (holds.1, holds.2, refl, holds.5, rw same at holds.6))

  -- no answer of a list is a fault where the list is one of answers in range
  pub sound_list : (p k : ℕ) → ((list : Data) → slice_get lists p ≡ Some list → IsAnswerList (length lists) list) → ¬ Holds (BadOracle (suc p) k) json
  sound_list p k sound holds = let (list, there, bad) = bad_list p k holds in not_bad (length lists) k list (sound list there) bad

  module _ (p : ℕ) (list : Data) (before_p : AllByRecursion (IsAnswerList (length lists)) (take p lists)) (at_p : slice_get lists p ≡ Some list) where
    same_list : (q : ℕ) (other : Data) → q ≡ p → slice_get lists q ≡ Some other → other ≡ list
    same_list q other same there = let at_q = rw same at there in cc

    -- nothing before process p is a fault, and nothing at p before its k-th answer where none of that is
    nothing_before : (k : ℕ) → ((j : ℕ) → j < k → ¬ IsBadAt (length lists) j list)
        → (other : SetupFault) → rank other ≡ 9 → IsLookedForBefore other (BadOracle (suc p) k) → ¬ Holds other json
    nothing_before k none (BadOracle zero zero) at before holds = holds lists each
    nothing_before k none (BadOracle zero (suc j)) at before holds = holds
    nothing_before k none (BadOracle (suc q) j) at before holds =
        let (other, there, bad) = bad_list q j holds in
        elim (cases_lt q p) [
          | inl below ↦ not_bad (length lists) j other (before_is_so (IsAnswerList (length lists)) lists p q other before_p below there) bad
          | inr least ↦ none j (omega arith) (subst (IsBadAt (length lists) j) (same_list q other (omega arith) there) bad)
        ]
    nothing_before k none other at before holds = absurd (omega arith)

    -- the first list that is no array is the first fault
    list_first : ((answers : List Data) → list ≢ array_of answers) → IsFirstOfRank 9 (BadOracle (suc p) zero) json
    list_first wrong =
        record { in_rank = refl; holds = (lists, list, each, at_p, wrong); first = nothing_before 0 (λ j below. absurd (omega (arith, below))) }

    module _ (k : ℕ) (answers : List Data) (is_array : list ≡ array_of answers) (stop : IsFirstNot (IsWholeWithin 1 (length lists)) answers k) where
      at_array : slice_get lists p ≡ Some (array_of answers)
      at_array = let e = is_array in cc

      -- the list at p is an array, and its answers before k are in range
      in_range : (j : ℕ) → j < suc k → ¬ IsBadAt (length lists) j list
      in_range zero below bad = bad answers is_array
      in_range (suc j) below (others, answer, is, there, wrong) =
          let equal : array_of others ≡ array_of answers = sym is ∙ is_array in
          wrong (before_is_so (IsWholeWithin 1 (length lists)) answers k j answer stop.before (omega arith) (rw (array_same others answers equal) at there))

      -- the first answer out of range is the first fault
      answer_first : IsFirstOfRank 9 (BadOracle (suc p) (suc k)) json
      answer_first =
          record { in_rank = refl; holds = (lists, answers, stop.value, each, at_array, stop.there, stop.not_so); first = nothing_before (suc k) in_range }

  lists_first : (fault : SetupFault) → IsFirstOfLists (length lists) lists fault → IsFirstOfRank 9 fault json
  lists_first fault stop =
      elim stop.4 [
        | inl list ↦ rw (list.0, add-one) (list_first stop.0 stop.1 stop.2 stop.3 list.1)
        | inr answer ↦ rw (answer.2, add-one, add-one) (answer_first stop.0 stop.1 stop.2 stop.3 answer.0 answer.1 answer.3 answer.4)
      ]

  pub lists_first_of : (n : ℕ) → length lists ≡ n → (fault : SetupFault) → IsFirstOfLists n lists fault → IsFirstOfRank 9 fault json
  lists_first_of n len fault stop = lists_first fault (rw (← len) at stop)

-- ---- The keys of an object, and the first needed key that is not there.

-- one of the keys has the name
some_key : (name : List ℕ) (keys : List Key) → list_any (λ k. bytes_eq name (name_of k)) keys ≡ true → (key : Key) × (name ≡ name_of key)
some_key name [] e = absurd cc
some_key name (key ∷ keys) e =
    elim (cases_Bool (bytes_eq name (name_of key))) [
      | inl h ↦ (key, (bytes_eq-Decides name (name_of key)).0 h)
      | inr h ↦ some_key name keys (rw h at e)
    ]

-- what the test on a name says
is_name : (name : List ℕ) → is_key_name name ≡ true → (key : Key) × (name ≡ name_of key)
is_name name = some_key name ALL

not_name : (name : List ℕ) → is_key_name name ≡ false → (key : Key) → name ≢ name_of key
not_name name e key same = grind (arith, common_steps, gets)

abbrev test : String Global → Bool
test name = is_key_name (string_bytes name)

-- what is found under another name than the first is found further on
found_later : (name : List ℕ) (entry : Entry) (entries : List Entry) → bytes_eq name (string_bytes entry.0) ≡ false
    → get_member name (members_view (entry ∷ entries)) ≡ get_member name (members_view entries)
found_later name entry entries e =
    member_later name entry entries (λ same. let equal = (bytes_eq-Decides name (string_bytes entry.0)).1 same in cc)

-- where each name is that of a key, what is found has the name of a key
all_known : (entries : List Entry) → list_all test (keys_of entries) ≡ true → (name : List ℕ) (value : Data)
    → get_member name (members_view entries) ≡ Some value → is_key_name name ≡ true
all_known [] e name value there = absurd cc
all_known (entry ∷ entries) e name value there =
    let parts = and_parts (test entry.0) (list_all test (keys_of entries)) e in
    elim (cases_Bool (bytes_eq name (string_bytes entry.0))) [
      | inl h ↦ rw ((bytes_eq-Decides name (string_bytes entry.0)).0 h) parts.0
      | inr h ↦ all_known entries parts.1 name value (sym (found_later name entry entries h) ∙ there)
    ]

-- else a value stands under a name that is not that of a key
some_other : (entries : List Entry) → list_all test (keys_of entries) ≡ false
    → (name : List ℕ) × (value : Data) × (get_member name (members_view entries) ≡ Some value) × (is_key_name name ≡ false)
some_other [] e = absurd cc
some_other (entry ∷ entries) e =
    elim (cases_Bool (test entry.0)) [
      | inr h ↦ (string_bytes entry.0, view entry.1, member_here (string_bytes entry.0) entry entries refl, h)
      | inl h ↦
          let (name, value, there, other) = some_other entries (rw h at e) in
          elim (cases_Bool (bytes_eq name (string_bytes entry.0))) [
            | inl here ↦ let same = (bytes_eq-Decides name (string_bytes entry.0)).0 here in let known = rw (← same) at h in absurd cc
            | inr later ↦ (name, value, found_later name entry entries later ∙ there, other)
          ]
    ]

-- what the test on all names says
pub known_or_other : (entries : List Entry) (result : Bool) → result ≡ list_all (λ name. is_key_name (string_bytes name)) (keys_of entries)
    → ChecksKeys result (object (members_view entries))
known_or_other entries true e = λ name value there. is_name name (all_known entries (sym e) name value there)
known_or_other entries false e = let (name, value, there, other) = some_other entries (sym e) in (name, value, there, not_name name other)

-- ---- the first key that is not there

abbrev IsThere : Data → Key → Type 0
IsThere json key = ¬ Holds (faults.Missing key) json

absent : (found : Option Data) (value : Data) → is_none found ≡ true → found ≢ Some value
absent found value is = grind (arith, common_steps, gets)

present : (found : Option Data) → is_none found ≡ false → ((value : Data) → found ≢ Some value) → ⊥
present found e none = grind (arith, common_steps, gets)

-- the keys of the positions below n are there
abbrev AreThereBelow : Data → ℕ → Type 0
AreThereBelow json n = (key : Key) → key_number key < n → IsThere json key

same_number : (j k : Key) → key_number j ≡ key_number k → j ≡ k
same_number j k e = grind (arith, common_steps, gets)

one_more : (json : Data) (k : Key) → AreThereBelow json (key_number k) → IsThere json k → AreThereBelow json (key_number k + 1)
one_more json k before here j below =
    elim (cases_eq (key_number j) (key_number k)) [
      | inl same ↦ subst (λ (i : Key). IsThere json i) (sym (same_number j k same)) here
      | inr other ↦ before j (omega arith)
    ]

first_of_rank : (json : Data) (k : Key) → AreThereBelow json (key_number k) → Holds (faults.Missing k) json
    → (other : SetupFault) → rank other ≡ 4 → IsLookedForBefore other (faults.Missing k) → ¬ Holds other json
first_of_rank json k before holds (faults.Missing j) at earlier = before j (omega arith)
first_of_rank json k before holds other at earlier = absurd (omega arith)

-- the key at which the search stops is the first that is not there
stops : (json : Data) (k : Key) → AreThereBelow json (key_number k) → Holds (faults.Missing k) json → IsFirstOfRank 4 (faults.Missing k) json
stops json k before holds = record { in_rank = refl; holds = holds; first = first_of_rank json k before holds }

-- what a search that goes on from the key k says
abbrev Finds : Data → Option Key → Type 0
Finds json found = MatchOption found (HasNeededKeys json) (λ k. IsFirstMissing k json)

goes_on : (json : Data) (k : Key) (missing : Bool) (further : Option Key) → k ≢ key.Version → is_none (get (name_of k) json) ≡ missing
    → AreThereBelow json (key_number k)
    → (AreThereBelow json (key_number k + 1) → Finds json further) → Finds json (cond missing (Some k) further)
goes_on json k true further needed e before rest = stops json k before (needed, λ value. absent (get (name_of k) json) value e)
goes_on json k false further needed e before rest = rest (one_more json k before (λ holds. present (get (name_of k) json) e holds.1))

needed_number : (k : Key) → k ≢ key.Version → key_number k < 5
needed_number k needed = grind (arith, common_steps, gets)

all_there : (json : Data) → AreThereBelow json 5 → HasNeededKeys json
all_there json below key holds = below key (needed_number key holds.0) holds

pub first_missing : (json : Data)
    → Finds json (find (λ k. is_none (get (name_of k) json)) (key.Algorithm ∷ key.Processes ∷ key.Quorum ∷ key.Inputs ∷ key.Oracle ∷ []))
first_missing json =
    goes_on json key.Algorithm _ _ (λ e. cc) refl (λ key below. absurd (omega arith)) (λ one.
    goes_on json key.Processes _ _ (λ e. cc) refl one (λ two.
    goes_on json key.Quorum _ _ (λ e. cc) refl two (λ three.
    goes_on json key.Inputs _ _ (λ e. cc) refl three (λ four.
    goes_on json key.Oracle _ _ (λ e. cc) refl four (λ five. all_there json five)))))

-- ---- What was read leaves no fault of its kind.

-- as many values are written as there are processes
each_written : {A : Type 0} (key : Key) (form : A → Data) (n : ℕ) (parts : List A) (json : Data) → IsCount n json
    → HasAt key (array_of (map form parts)) json → length parts ≡ n → HasOneEach key (map form parts) json
each_written key form n parts json count at len = (at, rw (length-map parts form, len) count)

pub no_bad_input : (n : ℕ) (inputs : List ℕ) (json : Data) → IsCount n json → HasInputs n json inputs → (position : ℕ) → ¬ Holds (BadInput position) json
no_bad_input n inputs json count has zero holds = holds (map whole inputs) (each_written key.Inputs whole n inputs json count has.0 has.1)
no_bad_input n inputs json count has (suc i) holds =
    sound_input (map whole inputs) json (each_written key.Inputs whole n inputs json count has.0 has.1) i
    (λ value there. all_at _ (map whole inputs) i value (within_written 0 MAX_VALUE inputs has.2) there) holds

pub no_bad_answer : (n : ℕ) (lists : List (List ℕ)) (json : Data) → IsCount n json → HasAnswers n json lists
    → (process position : ℕ) → ¬ Holds (BadOracle process position) json
no_bad_answer n lists json count has zero zero holds =
    holds (map array_of_whole lists) (each_written key.Oracle array_of_whole n lists json count has.0 has.1)
no_bad_answer n lists json count has zero (suc k) holds = holds
no_bad_answer n lists json count has (suc p) k holds =
    sound_list (map array_of_whole lists) json (each_written key.Oracle array_of_whole n lists json count has.0 has.1) p k
    (λ list there. rw (length-map lists array_of_whole, has.1) (all_at _ (map array_of_whole lists) p list (lists_written n lists has.2) there)) holds

pub no_bad_version : (version : ℕ) (json : Data) → IsVersion version json → ¬ Holds BadVersion json
no_bad_version version json (inl at, within) holds = let there = holds.1 in let same : holds.0 ≡ whole version = cc in holds.2 (version, same, within)
no_bad_version version json (inr absent, within) holds = let there = holds.1 in let nothing = absent.0 in cc

-- ---- The parts are read one after the other: what was read leaves no fault of its rank.

-- the first fault of a rank is the first of all where no earlier rank has one
pub joined : (t : ℕ) (fault : SetupFault) (json : Data) → IsClearBelow t json → IsFirstOfRank t fault json → IsFirstOf fault json
joined t fault json clear found = record {
  holds = found.holds;
  first = λ other before holds. elim (cases_lt (rank other) t) [
    | inl lt ↦ clear other lt holds
    | inr le ↦ found.first other (omega (arith, found.in_rank)) before holds
  ];
}

pub after_keys : (members : Members) (json : Data) → json ≡ object members → HasKnownKeys json → HasNeededKeys json → IsClearBelow 5 json
after_keys ms json is known none TooLong below holds = holds
after_keys ms json is known none NotJson below holds = holds
after_keys ms json is known none NotObject below holds = holds ms is
after_keys ms json is known none UnknownKey below holds = let found = known holds.0 holds.1 holds.2 in holds.3 found.0 found.1
after_keys ms json is known none (Missing key) below holds = none key holds
after_keys ms json is known none other below holds = absurd (omega arith)

-- once the inputs are read, and the answers, no fault of their rank is left
pub after_inputs : (n : ℕ) (inputs : List ℕ) (json : Data) → IsClearBelow 8 json → IsCount n json → HasInputs n json inputs → IsClearBelow 9 json
after_inputs n inputs json clear count has (BadInput position) below holds = no_bad_input n inputs json count has position holds
after_inputs n inputs json clear count has other below holds = clear other (omega arith) holds

pub after_answers : (n : ℕ) (lists : List (List ℕ)) (json : Data) → IsClearBelow 9 json → IsCount n json → HasAnswers n json lists → IsClearBelow 10 json
after_answers n lists json clear count has (BadOracle process position) below holds = no_bad_answer n lists json count has process position holds
after_answers n lists json clear count has other below holds = clear other (omega arith) holds

-- once the algorithm is read, none of its rank is left
pub after_algorithm : (algorithm : Algorithm) (json : Data) → IsClearBelow 5 json → HasAlgorithm algorithm json → IsClearBelow 6 json
after_algorithm algorithm json clear named BadAlgorithm below holds = holds algorithm named
after_algorithm algorithm json clear named other below holds = clear other (omega arith) holds

-- the fault of the version is the first where no other holds
pub version_last : (json : Data) → IsClearBelow 10 json → Holds BadVersion json → IsFirstOf BadVersion json
version_last json clear bad = record { holds = bad; first = only_version }
  where
    only_version : (other : SetupFault) → IsLookedForBefore other BadVersion → ¬ Holds other json
    only_version TooLong before holds = holds
    only_version NotJson before holds = holds
    only_version BadVersion before holds = absurd (omega arith)
    only_version (NoMemory refused) before holds = holds
    only_version other before holds = clear other (omega arith) holds

-- ---- The bytes as a whole: what encodes a setup has no fault, and encodes no other.

-- ---- a fault of the value is a fault of the bytes

one_value : (bytes : List ℕ) (a b : Data) → IsJsonOf bytes a → IsJsonOf bytes b → a ≡ b
one_value bytes a b x y = let p = x.1 in let q = y.1 in cc

to_bytes : (fault : SetupFault) (bytes : List ℕ) (json : Data) → IsJsonOf bytes json → Holds fault json → HoldsOf fault bytes
to_bytes TooLong bytes json is holds = absurd holds
to_bytes NotJson bytes json is holds = absurd holds
to_bytes fault bytes json is holds = (json, is, holds)

from_bytes : (fault : SetupFault) (bytes : List ℕ) (json : Data) → length bytes ≤ longest → IsJsonOf bytes json → HoldsOf fault bytes → Holds fault json
from_bytes TooLong bytes json short is holds = absurd (omega arith)
from_bytes NotJson bytes json short is holds = absurd (holds json is)
from_bytes fault bytes json short is holds = subst (λ (d : Data). Holds fault d) (one_value bytes holds.0 json holds.1 is) holds.2

pub lifted : (fault : SetupFault) (bytes : List ℕ) (json : Data) → length bytes ≤ longest → IsJsonOf bytes json
    → IsFirstOf fault json → IsFirstFault fault bytes
lifted fault bytes json short is found = record {
  holds = to_bytes fault bytes json is found.holds;
  first = λ other before holds. found.first other before (from_bytes other bytes json short is holds);
}

-- ---- what encodes a setup has no fault

same_at : {A : Type 0} {a b : A} → Some a ≡ Some b → a ≡ b
same_at e = cc

is_object : (json : Data) (parts : Parts) → IsSetupOf json parts → ¬ ((members : Members) → json ≢ object members)
is_object json parts is = grind (arith, common_steps, gets)

no_setup : (fault : SetupFault) (json : Data) (parts : Parts) → IsSetupOf json parts → ¬ Holds fault json
no_setup NotObject json parts is holds = is_object json parts is holds
no_setup UnknownKey json parts is holds = let known = is.keys holds.0 holds.1 holds.2 in holds.3 known.0 known.1
no_setup (Missing key.Algorithm) json parts is holds = holds.1 (string (algorithm_name parts.algorithm)) is.algorithm
no_setup (Missing key.Processes) json parts is holds = holds.1 (whole parts.processes) is.processes
no_setup (Missing key.Quorum) json parts is holds = holds.1 (whole parts.quorum) is.quorum
no_setup (Missing key.Inputs) json parts is holds = holds.1 (array_of_whole parts.inputs) is.inputs
no_setup (Missing key.Oracle) json parts is holds = holds.1 (array_of (map array_of_whole parts.answers)) is.answers
no_setup (Missing key.Version) json parts is holds = holds.0 refl
no_setup BadAlgorithm json parts is holds = holds parts.algorithm is.algorithm
no_setup BadCount json parts is holds = holds parts.processes (is.processes, is.ranges.processes)
no_setup BadQuorum json parts is holds = holds parts.processes parts.quorum (is.processes, is.ranges.processes) is.quorum is.ranges.quorum
no_setup (BadInput position) json parts is holds =
    no_bad_input parts.processes parts.inputs json (is.processes, is.ranges.processes) (is.inputs, is.ranges.an_input_each, is.ranges.inputs) position holds
no_setup (BadOracle process position) json parts is holds =
    no_bad_answer parts.processes parts.answers json (is.processes, is.ranges.processes)
    (is.answers, is.ranges.a_list_each, is.ranges.answers) process position holds
no_setup BadVersion json parts is holds = no_bad_version parts.version json (is.version, is.ranges.version) holds
no_setup other json parts is holds = holds

no_setup_of_bytes : (fault : SetupFault) (bytes : List ℕ) (parts : Parts) → Encodes bytes parts → ¬ HoldsOf fault bytes
no_setup_of_bytes fault bytes parts stands holds = no_setup fault stands.1 parts stands.3 (from_bytes fault bytes stands.1 stands.0 stands.2 holds)

-- ---- what encodes a setup encodes no other

same_name : (a b : Algorithm) → string (algorithm_name a) ≡ string (algorithm_name b) → a ≡ b
same_name a b e = grind (arith, common_steps, gets)

same_version : (json : Data) (v w : ℕ) → HasVersion v json → HasVersion w json → v ≡ w
same_version json v w first second = grind (arith, common_steps, gets)

same_parts : (json : Data) (s t : Parts) → IsSetupOf json s → IsSetupOf json t → s ≡ t
same_parts json s t a b = grind (arith, common_steps, gets, same_version, same_name, same_at, whole_same, array_same, same_written, same_fields)

pub one_setup : (bytes : List ℕ) (s t : Parts) → Encodes bytes s → Encodes bytes t → s ≡ t
one_setup bytes s t a b = same_parts a.1 s t a.3 (subst (λ (d : Data). IsSetupOf d t) (one_value bytes b.1 a.1 b.2 a.2) b.3)

-- what encodes a setup is answered, unless memory runs out
pub only : (result : Result Parts SetupFault) (bytes : List ℕ) → IfOk result (λ setup. Encodes bytes setup)
    → IfErr result (λ fault. fault ≢ NoMemory no_memory → IsFirstFault fault bytes)
    → (setup : Parts) → Encodes bytes setup → (result ≡ Ok setup) ⊎ (result ≡ Err (NoMemory no_memory))
only (Ok found) bytes stands faults setup other = inl (ap Ok (one_setup bytes found setup stands other))
only (Err (NoMemory refused)) bytes stands faults setup other = inr refl
only (Err fault) bytes stands faults setup other = absurd (no_setup_of_bytes fault bytes setup other (faults (λ e. cc)).holds)

-- ---- The test whether two setups are equal decides whether their parts are.

same_algorithm : (a b : Algorithm) → algorithm_number a ≡ algorithm_number b → a ≡ b
same_algorithm a b is = grind (arith, common_steps, gets)

numbers : (xs ys : List ℕ) → Decides (pointwise ◌==◌ xs ys) (xs ≡ ys)
numbers = pointwise_decides unsigned_Decides

all_equal : (s t : Parts) → are_equal s t ≡ true → s ≡ t
all_equal s t e =
    let version = and_parts _ _ e in
    let algorithm = and_parts _ _ version.1 in
    let processes = and_parts _ _ algorithm.1 in
    let quorum = and_parts _ _ processes.1 in
    let lists = and_parts _ _ quorum.1 in
    same_fields s t ((unsigned_Decides _ _).0 version.0) (same_algorithm _ _ ((unsigned_Decides _ _).0 algorithm.0)) ((unsigned_Decides _ _).0 processes.0)
    ((unsigned_Decides _ _).0 quorum.0) ((numbers _ _).0 lists.0) ((pointwise_decides numbers _ _).0 lists.1)

pub are_equal_decides : (s t : Parts) → Decides (are_equal s t) (s ≡ t)
are_equal_decides s t = (all_equal s t, λ same. subst (λ u. are_equal s u ≡ true) same (are_equal_equiv.refl s))
