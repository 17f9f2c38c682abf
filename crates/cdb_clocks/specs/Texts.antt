-- Clocks as text, as ShiViz reads it.
use Rattle.std.specs.Prelude.{◌≡◌, ℕ, zero, suc, Bool, true, false, List, [], ◌∷◌, ◌++◌, codes, decimal, length, Some}
use Rattle.std.specs.Prelude.{Option, flat_map}
use Rattle.std.specs.List.{range_with_len}
use Rattle.cdb_base.specs.Positions.{nth}
use Rattle.cdb_base.specs.declared.event.Event.{Event}
use Rattle.cdb_base.specs.declared.event.Event.TheVariants.{Step, Lost}
use Rattle.cdb_clocks.specs.Clocks.{AreClocks}
use Rattle.cdb_deeds.specs.declared.deed.Deed.{Deed}
use Rattle.cdb_explain.specs.Explanations.{line_at, line_text}
use Rattle.cdb_explain.specs.declared.line.Causes.TheVariants.{Shown}
use Rattle.cdb_rules.specs.RunView.{RunView}
use Rattle.cdb_rules.specs.Rules.{Rules}
use Rattle.cdb_setup.specs.Parts.{Parts}

-- `"pQ":N`
abbrev pub entry_text : ℕ → ℕ → List ℕ
entry_text q n = codes "\"p" ++ decimal q ++ codes "\":" ++ decimal n

-- a comma before each entry but the first
abbrev pub comma_text : Bool → List ℕ
comma_text true = []
comma_text false = codes ","

-- the numbers of process q and of those behind it, without those that are 0
abbrev pub entries_text : ℕ → Bool → List ℕ → List ℕ
entries_text q is_first [] = []
entries_text q is_first (zero ∷ numbers) = entries_text (suc q) is_first numbers
entries_text q is_first (suc n ∷ numbers) =
    comma_text is_first ++ entry_text q (suc n) ++ entries_text (suc q) false numbers

-- `pP {"pQ":N,..}`, as a line
abbrev pub clock_text : ℕ → List ℕ → List ℕ
clock_text p clock = codes "p" ++ decimal p ++ codes " {" ++ entries_text 1 true clock ++ codes "}\n"

-- of a step, at a position, its clock and then its line, as an explanation has it; of a loss nothing
abbrev pub lines_of : (Parts → Rules) → RunView → (ℕ → ℕ → List ℕ) → ℕ → Option Event → List ℕ
lines_of rules run clock at (Some (Step p k kind)) = clock_text p (clock p k) ++ line_at rules Shown run at
lines_of rules run clock at other = []

abbrev pub lines_at : (Parts → Rules) → RunView → (ℕ → ℕ → List ℕ) → ℕ → List ℕ
lines_at rules run clock at = lines_of rules run clock at (nth run.history at)

-- the lines of the first events
abbrev pub first_lines : (Parts → Rules) → RunView → (ℕ → ℕ → List ℕ) → ℕ → List ℕ
first_lines rules run clock count = flat_map (lines_at rules run clock) (range_with_len 1 count)

-- the text is that of each step of the run, in order, with its clock
abbrev pub IsClocksText : (Parts → Rules) → RunView → List ℕ → Type 0
IsClocksText rules run text =
    (clock : ℕ → ℕ → List ℕ) × AreClocks run.history clock × (text ≡ first_lines rules run clock (length run.history))

-- the lines of an event that did that, where the run stands so after it
abbrev pub step_text : (Parts → Rules) → RunView → Deed → (ℕ → ℕ → List ℕ) → Event → List ℕ
step_text rules after did clock (Step p k kind) =
    clock_text p (clock p k) ++ line_text rules Shown after did after (Step p k kind)
step_text rules after did clock (Lost copy) = []
