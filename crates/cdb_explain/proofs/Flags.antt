-- The flagged positions grow by one position after the other.
use Rattle.std.proofs.Common.{◌≡◌, ℕ, suc, ◌+◌, ◌<◌, Bool, false, List, [], ◌∷◌, ◌++◌, cond, length, get_or, unwrap_or}
use Rattle.std.proofs.Common.{ap, ◌∙◌, arith}
use Rattle.std.specs.List.{flat_map}
use Rattle.std.proofs.lemmas.List.{map-id}
use Rattle.std.proofs.lemmas.Grind.{common_steps, flat_map-append}
use Rattle.std.proofs.lemmas.List.FromFn.{filter_of_map_range_with_len_more}
use Rattle.std.proofs.lemmas.Option.{gets, slice_get-get_or}
use Rattle.cdb_explain.specs.Flagged.{is_flagged, flagged_of_first}

-- the flag that is read at a position
pub flag_read : (flags : List Bool) (i : ℕ) (d b : Bool) → i < length flags → get_or flags i d ≡ b → is_flagged flags (suc i) ≡ b
flag_read flags i d b within is = ap (λ o. unwrap_or o false) (slice_get-get_or flags i d within) ∙ is

module _ (flags : List Bool) (i : ℕ) (flag : Bool) (is : is_flagged flags (suc i) ≡ flag) where
  one_more : flagged_of_first (i + 1) flags ≡ flagged_of_first i flags ++ cond flag (suc i ∷ []) []
  one_more = rw is at (simp map-id at (filter_of_map_range_with_len_more (is_flagged flags) (λ (k : ℕ). k) 1 i (suc i) (omega arith)))

  pub count_more : (count one : ℕ) → count ≡ length (flagged_of_first i flags) → one ≡ cond flag 1 0
      → count + one ≡ length (flagged_of_first (i + 1) flags)
  count_more count one so more = rw one_more (grind (arith, common_steps, gets))

  -- the text that was there, the lines so far, and that of the next position where it is flagged
  pub text_more : (line : ℕ → List ℕ) (start now later : List ℕ) → now ≡ start ++ flat_map line (flagged_of_first i flags)
      → later ≡ now ++ cond flag (line (suc i)) [] → later ≡ start ++ flat_map line (flagged_of_first (i + 1) flags)
  text_more line start now later so more = rw one_more (grind (arith, common_steps, gets, flat_map-append))
