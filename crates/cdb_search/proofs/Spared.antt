-- One pass over commands, from the last to the first.
use Rattle.std.proofs.Common.{◌≡◌, inl, inr, ℕ, ◌+◌, ◌-◌, ◌<◌, ◌≤◌, List, length, sym, subst, arith}
use Rattle.std.proofs.lemmas.Bool.Decides.{eqb_tells}
use Rattle.cdb_causal.specs.Rollback.{without}
use Rattle.cdb_commands.specs.declared.command.Command.{Command}
use Rattle.cdb_goal.specs.declared.goal.Goal.{Goal}
use Rattle.cdb_rules.specs.Rules.{Rules}
use Rattle.cdb_search.proofs.Sublists.{joined, no_longer, one_shorter, whole, without_one}
use Rattle.cdb_search.specs.Passes.{IsPassed}
use Rattle.cdb_search.specs.Shrunk.{HoldsAfter, IsShrunk, IsSublist}
use Rattle.cdb_setup.specs.Parts.{Parts}

module _ (rules : Rules) (setup : Parts) (goal : Goal) (commands : List Command) where
  -- The pass has come down to this position and left these lines. As long as none was left out, none behind it can be.
  pub record Tried (i : ℕ) (lines : List Command) : Type 0 where
    pub some : IsSublist lines commands
    pub holds : HoldsAfter rules setup goal lines
    pub left : i ≤ length lines
    pub behind : length lines ≡ length commands → (j : ℕ) → i < j → j ≤ length lines → HoldsAfter rules setup goal (without lines j) → ⊥

  pub none_tried : (lines : List Command) → lines ≡ commands → HoldsAfter rules setup goal commands → Tried (length commands) lines
  none_tried lines same holds =
      rw same (record { some = whole commands; holds = holds; left = omega arith; behind = λ all j low high. absurd (omega arith) })

  pub spared : (i : ℕ) (lines : List Command) → 0 < i → Tried i lines → HoldsAfter rules setup goal (without lines i) → Tried (i - 1) (without lines i)
  spared i lines low tried holds =
      let within : i ≤ length lines = tried.left in
      let shorter = one_shorter lines i low within in
      let most = no_longer tried.some in
      record {
        some = joined tried.some (without_one lines i low within);
        holds = holds;
        left = omega (arith, within, shorter, low);
        behind = λ all j low high. absurd (omega (arith, shorter, most, all));
      }

  pub few_left : (i : ℕ) (lines : List Command) → 0 < i → Tried i lines → length (without lines i) ≤ length commands
  few_left i lines low tried =
      let shorter = one_shorter lines i low tried.left in
      let most = no_longer tried.some in
      omega (arith, shorter, most)

  pub needed : (i : ℕ) (lines : List Command) → 0 < i → Tried i lines → (HoldsAfter rules setup goal (without lines i) → ⊥) → Tried (i - 1) lines
  needed i lines low tried lost = record {
    some = tried.some;
    holds = tried.holds;
    left = omega (arith, tried.left);
    behind = λ all j above high.
        elim (eqb_tells j i) [
          | inl same ↦ subst (λ (n : ℕ). HoldsAfter rules setup goal (without lines n) → ⊥) (sym same.1) lost
          | inr other ↦ tried.behind all j (omega (arith, low, above, other.1)) high
        ];
  }

  pub all_tried : (i : ℕ) (lines : List Command) → i ≡ 0 → Tried i lines → IsPassed rules setup goal commands lines
  all_tried i lines first tried =
      record { some = tried.some; holds = tried.holds; least = λ all j low high. tried.behind all j (omega arith) high }

  -- ---- passes one after the other

  -- so many passes have left these lines, each of them fewer than before
  pub record Spared (passes : ℕ) (lines : List Command) : Type 0 where
    pub some : IsSublist lines commands
    pub holds : HoldsAfter rules setup goal lines
    pub fewer : passes + length lines ≤ length commands

  pub none_spared : (lines : List Command) → lines ≡ commands → HoldsAfter rules setup goal commands → Spared 0 lines
  none_spared lines same holds = rw same (record { some = whole commands; holds = holds; fewer = omega arith })

  pub more_spared : (passes : ℕ) (lines fewer : List Command) → Spared passes lines → IsPassed rules setup goal lines fewer → (length fewer ≡ length lines → ⊥)
      → Spared (passes + 1) fewer
  more_spared passes lines fewer spared passed less =
      let most = no_longer passed.some in
      record { some = joined spared.some passed.some; holds = passed.holds; fewer = omega (arith, spared.fewer, less) }

  pub all_spared : (passes : ℕ) (lines fewer : List Command) → Spared passes lines → IsPassed rules setup goal lines fewer → length fewer ≡ length lines
      → IsShrunk rules setup goal commands fewer
  all_spared passes lines fewer spared passed same =
      record { some = joined spared.some passed.some; holds = passed.holds; least = passed.least same }
