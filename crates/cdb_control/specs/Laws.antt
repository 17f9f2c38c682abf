-- The words of the laws: what they speak of.
use Rattle.std.specs.Prelude.{◌≡◌, ℕ, ◌+◌, ◌≢◌, ◌≤◌, true, [], ◌∷◌, ◌++◌, List}
use Rattle.cdb_base.specs.declared.refusal.Refusal.{Refusal}
use Rattle.cdb_control.specs.Commands.{reply_of, obey}
use Rattle.cdb_control.specs.Journal.{Journaled, AreOfSeats, own, replies_in, extended, reply_in, control_state, replay}
use Rattle.cdb_control.specs.State.{State, redo_of}
use Rattle.cdb_control.specs.Stops.{AreBelow}
use Rattle.cdb_commands.specs.ReplyView.{ReplyView, BreakSet, Refused, is_refused}
use Rattle.cdb_commands.specs.declared.command.Command.{Command}
use Rattle.cdb_commands.specs.declared.command.Stop.{Stop}
use Rattle.cdb_commands.specs.declared.command.Command.TheVariants.{Break}
use Rattle.cdb_control.specs.declared.control.Entry.{Entry}
use Rattle.cdb_rules.specs.Rules.{Rules}
use Rattle.cdb_setup.specs.Parts.{Parts, AreInRange}

-- they are the numbers of two seats
abbrev pub AreTwoSeats : ℕ → ℕ → Type 0
AreTwoSeats seat other = (1 ≤ seat) × (1 ≤ other) × (other ≢ seat)

-- by any rules, of each command of each seat, in each control state
abbrev pub ForCommands : (Rules → State → ℕ → Command → Type 0) → Type 0
ForCommands Holds = (rules : Rules) (t : State) (seat : ℕ) (command : Command) → Holds rules t seat command

-- of each that is refused
abbrev pub ForRefused : (Rules → State → ℕ → Command → Type 0) → Type 0
ForRefused Holds =
    ForCommands (λ rules t seat command.
    (refusal : Refusal) → reply_of rules t seat command ≡ Refused refusal → Holds rules t seat command)

-- of each, and of each seat that is not its own
abbrev pub ForOtherSeats : (Rules → State → ℕ → Command → ℕ → Type 0) → Type 0
ForOtherSeats Holds =
    ForCommands (λ rules t seat command. (other : ℕ) → AreTwoSeats seat other → Holds rules t seat command other)

-- by any rules, of each control state that a journal leads to
abbrev pub InReplayed : (Rules → State → Type 0) → Type 0
InReplayed Holds =
    (rules : Rules) (setup : Parts) (seats : ℕ) (journal : List Entry) → Holds rules (replay rules setup seats journal)

-- by the rules of any run, of each seat of each control
abbrev pub ForSeats : ((Parts → Rules) → Journaled → ℕ → Type 0) → Type 0
ForSeats Holds = (rules : Parts → Rules) (c : Journaled) (seat : ℕ) → Holds rules c seat

-- and of each list of entries of other seats
abbrev pub ForOthers : ((Parts → Rules) → Journaled → ℕ → List Entry → Type 0) → Type 0
ForOthers Holds = ForSeats (λ rules c seat. (more : List Entry) → own seat more ≡ [] → Holds rules c seat more)

-- of each setup whose parts are in range, and each journal of commands of its seats
abbrev pub ForJournals : (Parts → ℕ → List Entry → Type 0) → Type 0
ForJournals Holds =
    (setup : Parts) → AreInRange setup → (seats : ℕ) (journal : List Entry)
    → AreOfSeats seats journal → Holds setup seats journal

-- a control with these entries more
abbrev pub followed_by : Journaled → List Entry → Journaled
followed_by c more = record c { journal = c.journal ++ more }

-- the seat's replies of a control with this command of it more are those of the control and then the command's reply
abbrev pub AddsReply : (Parts → Rules) → Journaled → ℕ → Command → Type 0
AddsReply rules c seat command =
    replies_in rules seat (extended rules c seat command)
    ≡ replies_in rules seat c ++ reply_in rules c seat command ∷ []

-- ---- what a command leaves as it was

-- the control state, where the reply is a refusal
abbrev pub IsKeptIfRefused : (Parts → Rules) → Journaled → Journaled → ReplyView → Type 0
IsKeptIfRefused rules old new reply = is_refused reply ≡ true → control_state rules new ≡ control_state rules old

-- the redo list of each other seat
abbrev pub KeepsOtherLists : (Parts → Rules) → Journaled → Journaled → ℕ → Type 0
KeepsOtherLists rules old new seat =
    (other : ℕ) → AreTwoSeats seat other
    → redo_of (control_state rules new) other ≡ redo_of (control_state rules old) other

-- The number that comes next is above those of all breakpoints and never falls, and a breakpoint that was set got it;
-- so none is used again.
abbrev pub UsesNumbersOnce : (Parts → Rules) → Journaled → Journaled → Command → ReplyView → Type 0
UsesNumbersOnce rules old new command reply =
    let before = control_state rules old in let after = control_state rules new in
    AreBelow before.next before.stops × (before.next ≤ after.next)
    × ((stop : Stop) (number : ℕ) → command ≡ Break stop → reply ≡ BreakSet number
    → (number ≡ before.next) × (after.next ≡ before.next + 1))

-- the history, and the redo list of each seat
abbrev pub KeepsRun : State → State → Type 0
KeepsRun before after = (after.history ≡ before.history) × ((seat : ℕ) → redo_of after seat ≡ redo_of before seat)

-- a breakpoint that is set gets the next number, and the one after it is next
abbrev pub UsesNextNumber : Rules → State → ℕ → Stop → Type 0
UsesNextNumber rules t seat stop =
    (number : ℕ) → reply_of rules t seat (Break stop) ≡ BreakSet number
    → (number ≡ t.next) × ((obey rules t seat (Break stop)).next ≡ t.next + 1)
