-- What the arguments ask for.
use Rattle.std.specs.Prelude.{◌≡◌, ℕ, ◌≤◌, List, [], codes, Option, Some}
use Rattle.std.specs.Prelude.{None, unwrap_or, Result, IfOk, IfErr, IsSome}
use Rattle.std.specs.Option.{MatchOption}
use Rattle.clap.specs.Words.{Kinds, IsAmong, Row, first_of, all_of, kind_of}
use Rattle.clap.specs.declared.error.kind.ErrorKind.{ErrorKind}
use Rattle.clap.specs.declared.error.kind.ErrorKind.TheVariants.{DisplayHelp, DisplayVersion}
use Rattle.cdb_base.specs.Limits.{COLUMNS, MAX_NUMBER, MAX_TURNS}
use Rattle.cdb_arguments.specs.declared.request.ArgumentsFault.{ArgumentsFault}
use Rattle.cdb_arguments.specs.declared.request.ArgumentsFault.TheVariants.{Words, NoMemory}
use Rattle.cdb_arguments.specs.CommandLine.{subcommand_named}
use Rattle.cdb_arguments.specs.declared.command_line.Subcommand.{Subcommand}
use Rattle.cdb_arguments.specs.declared.command_line.Subcommand.TheVariants as sub
use Rattle.cdb_arguments.specs.Plain.{WritesCount, WritesNumber}
use Rattle.cdb_base.specs.Memory.{no_memory}
use Rattle.cdb_base.specs.Requests.{RequestView, Script, Play, Race, Ask, Frames, Debug, Replay}
use Rattle.cdb_base.specs.Requests.{Search, Shrink, Same, Text, asked_for}
use Rattle.cdb_base.specs.declared.question.Question.{Question}
use Rattle.cdb_base.specs.declared.question.Question.TheVariants.{Explain, Trail, Draw, Slice, Clocks, Page}
use Rattle.cdb_base.specs.declared.question.StepAsked.{StepAsked}
use Rattle.cdb_base.specs.declared.request.Request.{Request}

-- the text of an argument, which is empty where the matches have none
abbrev pub text_at : Text → List Row → Text
text_at id rows = unwrap_or (first_of id rows) []

-- the texts of an argument, of which there are none where the matches have none
abbrev pub texts_at : Text → List Row → List Text
texts_at id rows = unwrap_or (all_of id rows) []

-- a number from 0 on, and the one that the text writes where it writes one
abbrev pub IsCount : Text → ℕ → Type 0
IsCount text turns = (turns ≤ MAX_TURNS) × ((written : ℕ) → WritesCount text written → turns ≡ written)

-- a number from 1 on, and the one that the text writes where it writes one
abbrev pub IsNumber : Text → ℕ → Type 0
IsNumber text number =
    (1 ≤ number) × (number ≤ MAX_NUMBER) × ((written : ℕ) → WritesNumber text written → number ≡ written)

-- the number of an argument, and none where the matches have none
abbrev pub IsNumberOf : Option Text → Option ℕ → Type 0
IsNumberOf None found = found ≡ None
IsNumberOf (Some text) found = (number : ℕ) × (found ≡ Some number) × IsNumber text number

abbrev pub IsNumberAt : Text → List Row → Option ℕ → Type 0
IsNumberAt id rows = IsNumberOf (first_of id rows)

-- the step of the matches, where one has to be given
abbrev pub IsStepIn : List Row → StepAsked → Type 0
IsStepIn rows step = IsNumber (text_at (codes "P") rows) step.p × IsNumberAt (codes "K") rows step.k

-- and where it may be left out
abbrev pub IsAnyStepIn : List Row → Option StepAsked → Type 0
IsAnyStepIn rows None = first_of (codes "P") rows ≡ None
IsAnyStepIn rows (Some step) = IsSome (first_of (codes "P") rows) × IsStepIn rows step

-- the columns of a picture: as many as a page has where the matches have no number
abbrev pub AreColumns : Option Text → ℕ → Type 0
AreColumns None columns = columns ≡ COLUMNS
AreColumns (Some text) columns = IsCount text columns

-- a question of the run of two files, with a step of the matches
abbrev pub AsksStep : {S : Type 0} → (List Row → S → Type 0) → (S → Question) → List Row → RequestView → Type 0
AsksStep {S} IsIn question rows asked =
    (step : S) × IsIn rows step
    × (asked ≡ Ask (text_at (codes "SETUP") rows) (text_at (codes "SCRIPT") rows) (question step))

-- a picture with these columns, or its frames in a folder
abbrev pub AsksDrawing : ℕ → Option Text → List Row → RequestView → Type 0
AsksDrawing columns None rows asked = AsksStep IsAnyStepIn (λ step. Draw columns step) rows asked
AsksDrawing columns (Some folder) rows asked =
    (step : Option StepAsked) × IsAnyStepIn rows step
    × (asked ≡ Frames (text_at (codes "SETUP") rows) (text_at (codes "SCRIPT") rows) folder columns step)

-- what the matches of each subcommand ask for
abbrev pub AsksFor : Subcommand → List Row → RequestView → Type 0
AsksFor sub.Play rows asked = asked ≡ Play (text_at (codes "SETUP") rows) (text_at (codes "SCRIPT") rows)
AsksFor sub.Race rows asked =
    (turns : ℕ) × IsCount (text_at (codes "TURNS") rows) turns
    × (asked ≡ Race (text_at (codes "SETUP") rows) turns (texts_at (codes "SCRIPT") rows))
AsksFor sub.Explain rows asked = AsksStep IsStepIn (λ step. Explain step) rows asked
AsksFor sub.Trail rows asked = AsksStep IsStepIn (λ step. Trail step) rows asked
AsksFor sub.Draw rows asked =
    (columns : ℕ) × AreColumns (first_of (codes "N") rows) columns
    × AsksDrawing columns (first_of (codes "FOLDER") rows) rows asked
AsksFor sub.Slice rows asked = AsksStep IsAnyStepIn (λ step. Slice step) rows asked
AsksFor sub.Debug rows asked =
    asked ≡ Debug (text_at (codes "SETUP") rows) (texts_at (codes "SEAT") rows) (first_of (codes "JOURNAL") rows)
    (first_of (codes "FILE") rows) (first_of (codes "PAGE") rows)
AsksFor sub.Replay rows asked = asked ≡ Replay (text_at (codes "SETUP") rows) (text_at (codes "JOURNAL") rows)
AsksFor sub.Search rows asked =
    (seed walks : ℕ) × IsNumber (text_at (codes "SEED") rows) seed × IsNumber (text_at (codes "WALKS") rows) walks
    × (asked ≡ Search (text_at (codes "SETUP") rows) (text_at (codes "GOAL") rows) seed walks)
AsksFor sub.Shrink rows asked =
    asked ≡ Shrink (text_at (codes "SETUP") rows) (text_at (codes "SCRIPT") rows) (text_at (codes "GOAL") rows)
AsksFor sub.Same rows asked =
    asked ≡ Same (text_at (codes "SETUP") rows) (text_at (codes "FIRST") rows) (text_at (codes "SECOND") rows)
AsksFor sub.Clocks rows asked = asked ≡ Ask (text_at (codes "SETUP") rows) (text_at (codes "SCRIPT") rows) Clocks
AsksFor sub.Page rows asked = asked ≡ Ask (text_at (codes "SETUP") rows) (text_at (codes "SCRIPT") rows) Page

-- the matches name a subcommand and ask for this, or they name none and ask for the script on standard input
abbrev pub NamesAsked : Option (Text × List Row) → RequestView → Type 0
NamesAsked None asked = asked ≡ Script
NamesAsked (Some found) asked = MatchOption (subcommand_named found.0) ⊥ (λ it. AsksFor it found.1 asked)

-- this was asked for, or there is no memory to say it
abbrev pub IsRequest : Result Request ArgumentsFault → RequestView → Type 0
IsRequest result asked =
    IfOk result (λ request. asked_for request ≡ asked) × IfErr result (λ fault. fault ≡ NoMemory no_memory)

-- out of memory, or an error of one of the kinds
abbrev pub IsOfKinds : Kinds → ArgumentsFault → Type 0
IsOfKinds kinds (Words error) = IsAmong (kind_of error) kinds
IsOfKinds kinds (NoMemory refused) = Unit {0}

-- help and the version are no mistakes; other arguments are
abbrev pub words_status : ErrorKind → ℕ
words_status DisplayHelp = 0
words_status DisplayVersion = 0
words_status kind = 2

abbrev pub ask_status_of : ArgumentsFault → ℕ
ask_status_of (Words error) = words_status (kind_of error)
ask_status_of (NoMemory refused) = 6

-- the text of a fault; of what `clap` writes nothing is known
abbrev pub ask_fault_text : ArgumentsFault → Option (List ℕ)
ask_fault_text (Words error) = None
ask_fault_text (NoMemory refused) = Some (codes "no memory")
