-- What is reported of sessions of several seats.
use Rattle.std.specs.Prelude.{ℕ, ◌+◌, List, [], ◌∷◌, ◌++◌, codes, decimal, map, Result, Ok, Err}
use Rattle.cdb_streams.specs.Faults.{of_output}
use Rattle.cdb_streams.specs.FaultTexts.{as_line, play_fault_text}
use Rattle.cdb_streams.specs.Statuses.{play_status}
use Rattle.cdb_streams.specs.declared.buffer.OutputFault.{OutputFault}
use Rattle.cdb_streams.specs.declared.fault.PlayFault.{PlayFault}
use Rattle.cdb_shared_session.specs.declared.endpoint.Finished.{Finished}

-- how the sessions ended
abbrev pub outcomes : {T : Type 0} → List (Finished T) → List (Result (Unit {0}) PlayFault)
outcomes finished = map (λ its. its.outcome) finished

-- `seat S: `
abbrev pub seat_name : ℕ → List ℕ
seat_name seat = codes "seat " ++ decimal seat ++ codes ": "

-- `seat S: FAULT` where the session of the seat failed
abbrev pub failed_seat_line : ℕ → Result (Unit {0}) PlayFault → List ℕ
failed_seat_line seat (Ok done) = []
failed_seat_line seat (Err fault) = seat_name seat ++ as_line (play_fault_text fault (codes "the input"))

-- of seats that are numbered from this one on
abbrev pub failed_seat_lines : ℕ → List (Result (Unit {0}) PlayFault) → List ℕ
failed_seat_lines seat [] = []
failed_seat_lines seat (outcome ∷ outcomes) = failed_seat_line seat outcome ++ failed_seat_lines (seat + 1) outcomes

-- the status of the least seat that failed, and 0 where none did
abbrev pub seats_status : List (Result (Unit {0}) PlayFault) → ℕ
seats_status [] = 0
seats_status (Ok done ∷ outcomes) = seats_status outcomes
seats_status (Err fault ∷ outcomes) = play_status fault

-- a journal that was not written has a line too
abbrev pub journal_line : Result (Unit {0}) OutputFault → List ℕ
journal_line (Ok done) = []
journal_line (Err fault) = as_line (play_fault_text (of_output fault) (codes "the input"))

-- and a file in which it was not kept
abbrev pub kept_line : Result (Unit {0}) OutputFault → List ℕ
kept_line (Ok done) = []
kept_line (Err fault) = codes "journal: " ++ as_line (play_fault_text (of_output fault) (codes "the input"))

-- what is reported of a journal that was written so, of one that was kept so, and of seats whose sessions ended so
abbrev pub failures_text : Result (Unit {0}) OutputFault
    → Result (Unit {0}) OutputFault → List (Result (Unit {0}) PlayFault) → List ℕ
failures_text written kept outcomes = failed_seat_lines 1 outcomes ++ (journal_line written ++ kept_line kept)

-- the status: that of a journal that was not written or not kept, else that of the least seat that failed
abbrev pub status_of : Result (Unit {0}) OutputFault
    → Result (Unit {0}) OutputFault → List (Result (Unit {0}) PlayFault) → ℕ
status_of (Err fault) kept outcomes = play_status (of_output fault)
status_of (Ok done) (Err fault) outcomes = play_status (of_output fault)
status_of (Ok done) (Ok its) outcomes = seats_status outcomes
