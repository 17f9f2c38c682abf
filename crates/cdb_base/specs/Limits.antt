-- The limits of a run, of a session and of what is asked for.
use Rattle.std.specs.Prelude.{ℕ}

-- the most processes that a run has
abbrev pub MAX_PROCESSES : ℕ
MAX_PROCESSES = 9

-- the greatest value that a process proposes or decides
abbrev pub MAX_VALUE : ℕ
MAX_VALUE = 999999

-- the greatest round that a machine enters
abbrev pub MAX_ROUND : ℕ
MAX_ROUND = 999999

-- the most bytes that a setup may have, and a script
abbrev pub MAX_BYTES : ℕ
MAX_BYTES = 1048576

-- the most standing steps of one process
abbrev pub MAX_STEPS : ℕ
MAX_STEPS = 9999

-- the most standing breakpoints
abbrev pub MAX_BREAKPOINTS : ℕ
MAX_BREAKPOINTS = 99

-- the most seats
abbrev pub MAX_SEATS : ℕ
MAX_SEATS = 64

-- the most entries of a journal
abbrev pub MAX_ENTRIES : ℕ
MAX_ENTRIES = 999999

-- the most turns of a race
abbrev pub MAX_TURNS : ℕ
MAX_TURNS = 99999

-- the greatest number that names a process, a step or a round in an argument
abbrev pub MAX_NUMBER : ℕ
MAX_NUMBER = 999999

-- the columns of a row of a picture where none are asked for
abbrev pub COLUMNS : ℕ
COLUMNS = 20
