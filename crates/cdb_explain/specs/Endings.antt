-- How the writing of an answer ended, which is whole before any of it is written.
use Rattle.std.specs.Prelude.{Result, Ok, Err}
use Rattle.cdb_streams.specs.Endings.{Ending, Complete, WriterFailed, NotBegun}
use Rattle.cdb_streams.specs.declared.fault.PlayFault.TheVariants as play
use Rattle.cdb_explain.specs.declared.fault.AnswerFault.{AnswerFault}
use Rattle.cdb_explain.specs.declared.fault.AnswerFault.TheVariants.{Play}

abbrev pub answer_ending : {A : Type 0} → Result A AnswerFault → Ending
answer_ending (Ok done) = Complete
answer_ending (Err (Play play.Write)) = WriterFailed
answer_ending (Err fault) = NotBegun
