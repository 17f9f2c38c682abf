-- The texts of faults of answers.
use Rattle.std.specs.Prelude.{ℕ, List, ◌++◌, codes, decimal}
use Rattle.cdb_base.specs.Refusal.{refusal_text}
use Rattle.cdb_base.specs.declared.refusal.Refusal.TheVariants as refusal
use Rattle.cdb_streams.specs.FaultTexts.{play_fault_text}
use Rattle.cdb_streams.specs.Statuses.{play_status}
use Rattle.cdb_explain.specs.declared.fault.AnswerFault.{AnswerFault}
use Rattle.cdb_explain.specs.declared.fault.AnswerFault.TheVariants.{NoStep, NoValue, TooManyEvents, NotFound}
use Rattle.cdb_explain.specs.declared.fault.AnswerFault.TheVariants.{DoesNotHold, Play}

-- of a play's fault its text, where the name is that of what could not be read
abbrev pub answer_fault_text : AnswerFault → List ℕ → List ℕ
answer_fault_text NoStep name = refusal_text refusal.NoStep
answer_fault_text NoValue name = codes "no value"
answer_fault_text TooManyEvents name = codes "too many events to draw; name a step"
answer_fault_text (NotFound walks) name = codes "not found in " ++ decimal walks ++ codes " walks"
answer_fault_text DoesNotHold name = codes "the goal does not hold"
answer_fault_text (Play fault) name = play_fault_text fault name

-- the status with which the program ends: that of the play's fault, or 1
abbrev pub answer_status : AnswerFault → ℕ
answer_status (Play fault) = play_status fault
answer_status fault = 1
