-- What the program does with a request.
use Rattle.std.specs.Prelude.{◌≡◌, ℕ, ◌≤◌, List, [], ◌∷◌, codes, Option, Some, None, Ok, Err}
use Rattle.cdb_base.specs.Requests.{RequestView, Script, Play, Race, Ask, Frames, Debug, Replay}
use Rattle.cdb_base.specs.Requests.{Search, Shrink, Same, Text, asked_for}
use Rattle.cdb_base.specs.declared.question.StepAsked.{StepAsked}
use Rattle.cdb_streams.specs.Streams.{Stream, Takes, Fails, itself}
use Rattle.cdb_streams.specs.declared.fault.PlayFault.TheVariants.{Write}
use Rattle.cdb_agreement.specs.Algorithms.{rules}
use Rattle.cdb_agreement.specs.SameState.{ReachSameState}
use Rattle.cdb_control.specs.Headline.{Headline}
use Rattle.cdb_control.specs.Laws.{ForJournals}
use Rattle.cdb_program.specs.Beginnings.{Named}
use Rattle.cdb_program.specs.Comparisons.{ComparesFiles}
use Rattle.cdb_program.specs.FrameFiles.{FramesFiles}
use Rattle.cdb_program.specs.Known.{HasNoSession, Seen}
use Rattle.cdb_program.specs.Outcomes.{RequestEnd}
use Rattle.cdb_program.specs.Plays.{PlaysInput, PlaysFiles}
use Rattle.cdb_program.specs.Questions.{AsksFiles}
use Rattle.cdb_program.specs.Races.{RacesFiles}
use Rattle.cdb_program.specs.Replays.{ReplaysFiles}
use Rattle.cdb_program.specs.Reports.{IsReported}
use Rattle.cdb_program.specs.Searches.{SearchesFile, ShrinksFiles}
use Rattle.cdb_program.specs.Sessions.{DebugsHere, PerformsSeats}
use Rattle.cdb_program.specs.declared.fault.Fault.{Fault}
use Rattle.cdb_program.specs.declared.fault.Fault.TheVariants as fault
use Rattle.cdb_program.specs.declared.request.Action.{Action}
use Rattle.cdb_program.specs.declared.request.Action.TheVariants.{Perform, Print, Refuse}
use Rattle.cdb_base.specs.Limits.{MAX_TURNS}

-- a race has turns that its threads can count
abbrev pub HasTurns : RequestView → Type 0
HasTurns (Race setup turns scripts) = turns ≤ MAX_TURNS
HasTurns asked = Unit {0}

-- what is asked for is not one of sessions
abbrev pub IsNoSession : RequestView → Type 0
IsNoSession (Debug setup seats from journal page) = ⊥
IsNoSession asked = Unit {0}

-- no file is opened, no input is read, and nothing is saved
abbrev pub ReadsNothing : Seen → Seen → Type 0
ReadsNothing old new = (new.files ≡ old.files) × HasNoSession old new

-- the outcome is the fault whose text is this line
abbrev pub IsRefusal : Text → RequestEnd → Type 0
IsRefusal line (Err (fault.Refused reason)) = reason.now ≡ line
IsRefusal line outcome = ⊥

-- nothing is done, and the reason is this line
abbrev pub RefusesWith : Text → Seen → Seen → RequestEnd → Type 0
RefusesWith line old new outcome = ReadsNothing old new × (new.output ≡ old.output) × IsRefusal line outcome

-- the frames are drawn; they are of the whole run, and so a step is refused
abbrev pub DrawsFrames : Text → Text → Text → ℕ → Option StepAsked → Seen → Seen → RequestEnd → Type 0
DrawsFrames setup script folder columns None old new outcome = FramesFiles setup script folder columns old new outcome
DrawsFrames setup script folder columns (Some step) old new outcome =
    RefusesWith (codes "--frames takes no P\n") old new outcome

-- what is done where no session is asked for, but for what is reported of a fault
abbrev pub Does : RequestView → Seen → Seen → RequestEnd → Type 0
Does Script old new outcome = PlaysInput old new outcome
Does (Play setup script) old new outcome = PlaysFiles setup script old new outcome
Does (Race setup turns scripts) old new outcome = RacesFiles setup turns scripts old new outcome
Does (Ask setup script question) old new outcome = AsksFiles setup script question old new outcome
Does (Frames setup script folder columns step) old new outcome =
    DrawsFrames setup script folder columns step old new outcome
Does (Debug setup seats from journal page) old new outcome = ⊥
Does (Replay setup journal) old new outcome = ReplaysFiles setup journal old new outcome
Does (Search setup goal seed walks) old new outcome = SearchesFile setup goal walks old new outcome
Does (Shrink setup script goal) old new outcome = ShrinksFiles setup script goal old new outcome
Does (Same setup first second) old new outcome = ComparesFiles setup first second old new outcome

-- the text is written, or the outcome is that output failed
abbrev pub Prints : Text → Stream → Stream → RequestEnd → Type 0
Prints text old new (Ok done) = Takes itself old new text
Prints text old new (Err (fault.Play Write name)) = Fails itself old new text
Prints text old new (Err other) = ⊥

abbrev pub PrintsText : Text → Seen → Seen → RequestEnd → Type 0
PrintsText text old new outcome = ReadsNothing old new × Prints text old.output new.output outcome

-- nothing is done, for this fault
abbrev pub RefusesFor : Fault → Seen → Seen → RequestEnd → Type 0
RefusesFor fault old new outcome = ReadsNothing old new × (new.output ≡ old.output) × (outcome ≡ Err fault)

-- this was done, and how it ended was reported
abbrev pub IsDone : (Seen → Seen → RequestEnd → Type 0) → Seen → Seen → ℕ → Type 0
IsDone DoesIt old new status =
    (outcome : RequestEnd) × DoesIt old new outcome × IsReported outcome old.error new.error status

-- sessions of these seats, or one here without seats, with this prompt
abbrev pub PerformsSessions : Named → Text → List Text → Seen → Seen → ℕ → Type 0
PerformsSessions it prompt [] old new status = IsDone (DebugsHere it prompt) old new status
PerformsSessions it prompt (seat ∷ seats) old new status = PerformsSeats it (seat ∷ seats) old new status

-- what was asked for was done, a session here with this prompt, and how it ended was reported; nothing was saved where
-- none was asked for
abbrev pub PerformsAsked : Text → RequestView → Seen → Seen → ℕ → Type 0
PerformsAsked prompt (Debug setup seats from journal page) old new status =
    let it : Named = record { setup = setup; from = from; journal = journal; page = page } in
    PerformsSessions it prompt seats old new status
PerformsAsked prompt asked old new status = IsDone (Does asked) old new status × (new.saved ≡ old.saved)

-- what an action performs has turns
abbrev pub MayPerform : Action → Type 0
MayPerform (Perform request prompt) = HasTurns (asked_for request.now)
MayPerform action = Unit {0}

-- the action was performed, and how it ended was reported
abbrev pub Performs : Action → Seen → Seen → ℕ → Type 0
Performs (Perform request prompt) old new status = PerformsAsked prompt.now (asked_for request.now) old new status
Performs (Print text) old new status = IsDone (PrintsText text.now) old new status
Performs (Refuse fault) old new status = IsDone (RefusesFor fault) old new status

-- the headline holds of every journal of commands of seats that there are, on each setup in range, by the rules of
-- either algorithm
abbrev pub HeadlineHolds : Type 0
HeadlineHolds = ForJournals (λ setup seats journal. Headline rules ReachSameState setup seats journal)
