-- The positions of a set, found one after another.
use Rattle.std.proofs.Common.{◌≡◌, ℕ, suc, ◌+◌, ◌≤◌, ⊎_elim, List, [], ◌∷◌, ◌++◌, map-id, Some, slice_get, length, sym, subst, arith}
use Rattle.std.specs.List.{range_with_len}
use Rattle.std.proofs.lemmas.Bool.{cases_lt}
use Rattle.std.proofs.lemmas.Grind.{common_steps}
use Rattle.std.proofs.lemmas.List.FromFn.{length-range_with_len, map-range_with_len_more}
use Rattle.std.proofs.lemmas.Option.{gets}
use Rattle.cdb_base.specs.declared.event.Event.{Event}
use Rattle.cdb_causal.specs.Causality.{IsLink}
use Rattle.cdb_causal.specs.Dependence.{depends}
use Rattle.cdb_causal.specs.Rollback.{done}
use Rattle.cdb_causal.proofs.Lists.{nth_within}
use Rattle.cdb_causal.proofs.Parted.{more_in, more_out}
use Rattle.cdb_page.specs.Listed.{AreFirst}

pub none_found : (IsIn : ℕ → Type 0) → AreFirst IsIn 0 []
none_found IsIn = record { others = []; parted = done }

-- a position more
module _ {IsIn : ℕ → Type 0} {n : ℕ} {found : List ℕ} (so : AreFirst IsIn n found) where
  range_more : range_with_len 1 (n + 1) ≡ range_with_len 1 n ++ (n + 1) ∷ []
  range_more = simp map-id at (map-range_with_len_more (λ (k : ℕ). k) 1 n (n + 1) (omega arith))

  place : n + 1 ≡ 1 + length (range_with_len 1 n)
  place = rw (length-range_with_len 1 n) (omega arith)

  pub found_in : IsIn (n + 1) → AreFirst IsIn (n + 1) (found ++ (n + 1) ∷ [])
  found_in is = record {
    others = so.others;
    parted = rw range_more (more_in IsIn 1 _ so.others found (n + 1) so.parted (subst IsIn place is));
  }

  pub found_out : (IsIn (n + 1) → ⊥) → AreFirst IsIn (n + 1) found
  found_out not = record {
    others = so.others ++ (n + 1) ∷ [];
    parted = rw range_more (more_out IsIn 1 _ so.others found (n + 1) so.parted (λ is. not (subst IsIn (sym place) is)));
  }

-- the next one is the first that is linked, where none before it is
pub first_link : (events : List Event) (at n : ℕ) → ((other : ℕ) → other ≤ n → IsLink depends events at other → ⊥)
    → (other : ℕ) → IsLink depends events at other → n + 1 ≤ other
first_link events at n none other link = ⊎_elim (λ less. absurd (none other (omega (arith, less)) link)) (λ more. more) (cases_lt other (n + 1))

pub link_within : (events : List Event) (i j : ℕ) → IsLink depends events i j → j ≤ length events
link_within events i j link = nth_within events j link.effect link.at_effect

-- an element more, each of which is of its position
pub one_more : {A : Type 0} (IsIts : ℕ → A → Type 0) (xs : List A) (n : ℕ) (x : A) → length xs ≡ n → IsIts (suc n) x
    → ((k : ℕ) (it : A) → slice_get xs k ≡ Some it → IsIts (suc k) it) → (k : ℕ) (it : A) → slice_get (xs ++ x ∷ []) k ≡ Some it → IsIts (suc k) it
one_more IsIts xs n x number is each k it stands = grind (arith, common_steps, gets)
