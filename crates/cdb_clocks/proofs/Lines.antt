-- The lines of the steps so far.
use Rattle.std.proofs.Common.{◌≡◌, ℕ, suc, ◌+◌, List, [], ◌∷◌, ◌++◌, Some, slice_get, map-id, refl, sym, ap, arith, append-nil}
use Rattle.std.specs.List.{range_with_len}
use Rattle.std.proofs.lemmas.Grind.{flat_map-append}
use Rattle.std.proofs.lemmas.List.FromFn.{map-range_with_len_more}
use Rattle.cdb_base.specs.declared.event.Event.{Event}
use Rattle.cdb_base.specs.declared.event.Event.TheVariants.{Step, Lost}
use Rattle.cdb_clocks.specs.Texts.{clock_text, first_lines, lines_at, step_text}
use Rattle.cdb_deeds.specs.declared.deed.Deed.{Deed}
use Rattle.cdb_explain.specs.Explanations.{line_at, line_text}
use Rattle.cdb_explain.specs.declared.line.Causes.TheVariants.{Shown}
use Rattle.cdb_rules.specs.RunView.{RunView}
use Rattle.cdb_rules.specs.Rules.{Rules}
use Rattle.cdb_setup.specs.Parts.{Parts}

module _ (rules : Parts → Rules) (run : RunView) (clock : ℕ → ℕ → List ℕ) (i : ℕ) where
  pub lines_more : first_lines rules run clock (i + 1) ≡ first_lines rules run clock i ++ lines_at rules run clock (suc i)
  lines_more =
      let lines = lines_at rules run clock in
      let next = simp map-id at (map-range_with_len_more (λ (k : ℕ). k) 1 i (suc i) (omega arith)) in
      rw (next, flat_map-append lines (range_with_len 1 i) (suc i ∷ []), append-nil (lines (suc i))) refl

  -- the lines of the next event, by its line
  pub its_lines : (event : Event) (after : RunView) (did : Deed) → slice_get run.history i ≡ Some event
      → line_text rules Shown after did after event ≡ line_at rules Shown run (suc i)
      → lines_at rules run clock (suc i) ≡ step_text rules after did clock event
  its_lines (Step p k kind) after did at line = rw at (ap (λ (t : List ℕ). clock_text p (clock p k) ++ t) (sym line))
  its_lines (Lost copy) after did at line = rw at refl
