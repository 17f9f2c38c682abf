-- How the program reports that a request ended.
use Rattle.std.specs.Prelude.{◌≡◌, ℕ, List, [], ◌++◌, codes, Result, Ok, Err}
use Rattle.cdb_explain.specs.FaultTexts.{answer_fault_text, answer_status}
use Rattle.cdb_shared_session.specs.Reports.{kept_line}
use Rattle.cdb_streams.specs.Faults.{of_output}
use Rattle.cdb_streams.specs.FaultTexts.{as_line, play_fault_text, race_fault_text}
use Rattle.cdb_streams.specs.Statuses.{play_status, race_status}
use Rattle.cdb_streams.specs.Streams.{Stream, Writes, itself}
use Rattle.cdb_streams.specs.declared.sink.Failed.{Failed}
use Rattle.cdb_program.specs.declared.fault.Fault.{Fault}
use Rattle.cdb_program.specs.declared.fault.Fault.TheVariants.{Play, Race, Answer, Journal, Page}
use Rattle.cdb_program.specs.declared.fault.Fault.TheVariants.{Different, NoGoal, TooManySeats, Refused}

-- what is reported; a reason is a text of whole lines, and of runs that differ the output has told
abbrev pub fault_text : Fault → List ℕ
fault_text (Play fault name) = as_line (play_fault_text fault name.now)
fault_text (Race fault) = as_line (race_fault_text fault)
fault_text (Answer fault name) = as_line (answer_fault_text fault name.now)
fault_text NoGoal = codes "the goal is differ, all, stuck:R or decides:P:V\n"
fault_text Different = []
fault_text (Journal fault) = kept_line (Err fault)
fault_text (Page fault) = codes "page: " ++ as_line (answer_fault_text fault (codes "the input"))
fault_text TooManySeats = codes "too many seats\n"
fault_text (Refused reason) = reason.now

-- the status with which the program ends
abbrev pub fault_status : Fault → ℕ
fault_status (Play fault name) = play_status fault
fault_status (Race fault) = race_status fault
fault_status (Answer fault name) = answer_status fault
fault_status NoGoal = 2
fault_status Different = 1
fault_status (Journal fault) = play_status (of_output fault)
fault_status (Page fault) = answer_status fault
fault_status TooManySeats = 2
fault_status (Refused reason) = 2

-- Nothing and 0 where all went well, else the fault's text, as far as the writer took it, and status
abbrev pub IsReported : Result (Unit {0}) Fault → Stream → Stream → ℕ → Type 0
IsReported (Ok done) old new status = (new ≡ old) × (status ≡ 0)
IsReported (Err fault) old new status =
    ((reported : Result (Unit {0}) Failed) × Writes itself reported old new (fault_text fault))
    × (status ≡ fault_status fault)
