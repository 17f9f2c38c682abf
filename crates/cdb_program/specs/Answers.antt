-- What a session answers that is asked of its run: what the subcommand prints of the run, or reports where it prints
-- nothing.
use Rattle.std.specs.Prelude.{◌≡◌, ℕ, List, Ok, Err, codes}
use Rattle.cdb_base.specs.declared.question.Question.{Question}
use Rattle.cdb_base.specs.declared.question.Question.TheVariants as question
use Rattle.cdb_base.specs.Limits.{COLUMNS}
use Rattle.cdb_explain.specs.FaultTexts.{answer_fault_text}
use Rattle.cdb_explain.specs.declared.fault.AnswerFault.{AnswerFault}
use Rattle.cdb_rules.specs.RunView.{RunView}
use Rattle.cdb_session.specs.Exchanges.{Answer}
use Rattle.cdb_session.specs.declared.inquiry.Inquiry.{Inquiry}
use Rattle.cdb_session.specs.declared.inquiry.Inquiry.TheVariants.{Explain, Trail, Draw}
use Rattle.cdb_streams.specs.FaultTexts.{as_line}
use Rattle.cdb_program.specs.Questions.{HasNoAnswer, IsAnswerTo}

-- the line of the fault; nothing is read here
abbrev pub report_of : AnswerFault → List ℕ
report_of fault = as_line (answer_fault_text fault (codes "the input"))

-- the question that is asked
abbrev pub question_of : Inquiry → Question
question_of (Explain step) = question.Explain step
question_of (Trail step) = question.Trail step
question_of (Draw name step) = question.Draw COLUMNS step

-- the text that answers it, or what is reported
abbrev pub IsAnswer : RunView → Inquiry → Answer → Type 0
IsAnswer run inquiry (Ok text) = IsAnswerTo (question_of inquiry) run text
IsAnswer run inquiry (Err reason) =
    (fault : AnswerFault) × HasNoAnswer (question_of inquiry) run fault × (reason ≡ report_of fault)
