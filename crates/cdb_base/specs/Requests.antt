-- What the program is asked to do, as a contract sees it, with plain texts where the program has references.
use Rattle.std.specs.Prelude.{ℕ, List, Option, map, option_map}
use Rattle.std.specs.Borrow.{Bor}
use Rattle.cdb_base.specs.declared.question.Question.{Question}
use Rattle.cdb_base.specs.declared.question.StepAsked.{StepAsked}
use Rattle.cdb_base.specs.declared.request.Request.{Request}
use Rattle.cdb_base.specs.declared.request.Request.TheVariants as request

-- a text, by its bytes
abbrev pub Text : Type 0
Text = List ℕ

-- several texts
abbrev pub texts : List (Bor Text) → List Text
texts = map (λ text. text.now)

-- a text that may be left out
abbrev pub any_text : Option (Bor Text) → Option Text
any_text = option_map (λ text. text.now)

pub data RequestView : Type 0 where
  Script : RequestView
  Play : (setup script : Text) → RequestView
  Race : (setup : Text) → (turns : ℕ) → (scripts : List Text) → RequestView
  Ask : (setup script : Text) → (question : Question) → RequestView
  Frames : (setup script folder : Text) → (columns : ℕ) → (step : Option StepAsked) → RequestView
  Debug : (setup : Text) → (seats : List Text) → (from journal page : Option Text) → RequestView
  Replay : (setup journal : Text) → RequestView
  Search : (setup goal : Text) → (seed walks : ℕ) → RequestView
  Shrink : (setup script goal : Text) → RequestView
  Same : (setup first second : Text) → RequestView

-- what a request asks for
abbrev pub asked_for : Request → RequestView
asked_for request.Script = Script
asked_for (request.Play setup script) = Play setup.now script.now
asked_for (request.Race setup turns scripts) = Race setup.now turns (texts scripts.items)
asked_for (request.Ask setup script question) = Ask setup.now script.now question
asked_for (request.Frames setup script folder columns step) = Frames setup.now script.now folder.now columns step
asked_for (request.Debug setup seats from journal page) =
    Debug setup.now (texts seats.items) (any_text from) (any_text journal) (any_text page)
asked_for (request.Replay setup journal) = Replay setup.now journal.now
asked_for (request.Search setup goal seed walks) = Search setup.now goal.now seed walks
asked_for (request.Shrink setup script goal) = Shrink setup.now script.now goal.now
asked_for (request.Same setup first second) = Same setup.now first.now second.now
