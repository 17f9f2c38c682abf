-- Up to where a run is drawn whole.
use Rattle.std.specs.Prelude.{ℕ}

-- the most events of a run that is drawn whole; of one with more only what led to a step is drawn
abbrev pub MOST_DRAWN : ℕ
MOST_DRAWN = 5000
