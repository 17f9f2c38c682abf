-- What a function that writes to the end of a text does.
use Rattle.std.specs.Prelude.{◌≡◌, ℕ, ◌≤◌, Bool, true, List, length, take, ◌++◌, String, string_bytes, Result, OnOk}
use Rattle.std.specs.Char.{is_ascii}
use Rattle.std.specs.Global.{Global}
use Rattle.std.specs.List.{list_all}

-- unless memory runs out, these bytes stand at the end of the text that there was
abbrev pub Pushes : {A E : Type 0} → Result A E → String Global → String Global → List ℕ → Type 0
Pushes result old new bytes = OnOk result (string_bytes new ≡ string_bytes old ++ bytes)

abbrev pub all_ascii : List ℕ → Bool
all_ascii text = list_all is_ascii text

-- before the first of these bytes all are as they were, the text stands from there to the other, and there are as many
-- bytes as there were; the text is ASCII
pub record Writes (from end : ℕ) (old new text : List ℕ) : Type 0 where
  pub is : take end new ≡ take from old ++ text
  pub within : end ≤ length new
  pub as_many : length new ≡ length old
  pub ascii : all_ascii text ≡ true
