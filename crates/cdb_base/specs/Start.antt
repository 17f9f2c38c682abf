-- The text of a refused start.
use Rattle.std.specs.Prelude.{ℕ, List, codes}

-- the start of a thread was refused
abbrev pub refused_start_text : List ℕ
refused_start_text = codes "no thread"
