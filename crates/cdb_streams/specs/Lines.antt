-- The lines of a script.
use Rattle.std.specs.Prelude.{ℕ, List, [], ◌∷◌, nat_eq}
use Rattle.std.specs.List.{slice_split}

-- an empty last part is no line
abbrev pub without_empty_end : List (List ℕ) → List (List ℕ)
without_empty_end [] = []
without_empty_end ([] ∷ []) = []
without_empty_end (part ∷ parts) = part ∷ without_empty_end parts

-- each line ends with byte 10, which the last may lack; an empty script has none
unfoldable pub lines_of : List ℕ → List (List ℕ)
lines_of script = without_empty_end (slice_split (λ byte. nat_eq byte 10) script)
