-- Sublists, and lists without one element.
use Rattle.std.proofs.Common.{◌≡◌, ℕ, zero, suc, ◌+◌, ◌<◌, ◌≤◌, List, [], ◌∷◌, ◌++◌, length, take, drop, arith}
use Rattle.cdb_causal.specs.Rollback.{without}
use Rattle.cdb_search.specs.Shrunk.{IsSublist, none, kept, left_out}

module _ {A : Type 0} where
  pub whole : (xs : List A) → IsSublist xs xs
  whole [] = none
  whole (x ∷ xs) = kept (whole xs)

  pub joined : {more all : List A} → IsSublist more all → {some : List A} → IsSublist some more → IsSublist some all
  joined none first = first
  joined (left_out second) first = left_out (joined second first)
  joined (kept second) (kept first) = kept (joined second first)
  joined (kept second) (left_out first) = left_out (joined second first)

  pub no_longer : {some all : List A} → IsSublist some all → length some ≤ length all
  no_longer none = omega arith
  no_longer (kept is) = let less = no_longer is in omega arith
  no_longer (left_out is) = let less = no_longer is in omega arith

  around : (xs : List A) (i : ℕ) → i < length xs → IsSublist (take i xs ++ drop (suc i) xs) xs
  around [] i within = absurd (omega arith)
  around (x ∷ xs) zero within = left_out (whole xs)
  around (x ∷ xs) (suc i) within = kept (around xs i (omega arith))

  -- without one of its elements, by its place from 1, a list is one of its sublists, and shorter by one
  pub without_one : (xs : List A) (n : ℕ) → 0 < n → n ≤ length xs → IsSublist (without xs n) xs
  without_one xs zero low within = absurd (omega arith)
  without_one xs (suc i) low within = around xs i (omega arith)

  pub one_shorter : (xs : List A) (n : ℕ) → 0 < n → n ≤ length xs → length (without xs n) + 1 ≡ length xs
  one_shorter xs zero low within = absurd (omega arith)
  one_shorter [] (suc i) low within = absurd (omega arith)
  one_shorter (x ∷ xs) (suc zero) low within = omega arith
  one_shorter (x ∷ xs) (suc (suc i)) low within = let shorter = one_shorter xs (suc i) (omega arith) (omega arith) in omega arith
