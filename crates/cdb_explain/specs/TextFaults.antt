-- Why there is no text that answers a question of a run.
use Rattle.cdb_explain.specs.declared.fault.AnswerFault.{AnswerFault}
use Rattle.cdb_explain.specs.declared.fault.AnswerFault.TheVariants.{NoStep, NoValue, TooManyEvents, Play}
use Rattle.cdb_streams.specs.declared.fault.PlayFault.TheVariants as play

-- the step that is asked for is missing, or has no value, or more events stand than are drawn
abbrev pub HasNoText : (Missing Valueless Crowded : Type 0) → AnswerFault → Type 0
HasNoText Missing Valueless Crowded NoStep = Missing
HasNoText Missing Valueless Crowded NoValue = Valueless
HasNoText Missing Valueless Crowded TooManyEvents = Crowded
HasNoText Missing Valueless Crowded fault = ⊥

-- that, or an allocation failed
abbrev pub IsFaultOfText : (Missing Valueless Crowded : Type 0) → AnswerFault → Type 0
IsFaultOfText Missing Valueless Crowded (Play (play.NoMemory refused)) = Unit {0}
IsFaultOfText Missing Valueless Crowded fault = HasNoText Missing Valueless Crowded fault
