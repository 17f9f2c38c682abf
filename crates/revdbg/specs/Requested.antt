-- What the arguments ask for, and that it is performed.
use Rattle.std.specs.Prelude.{◌≡◌, ◌≢◌, ◌⊎◌, ℕ, List, [], Option, codes}
use Rattle.std.specs.declared.io.ErrorKind.{ErrorKind as IoKind}
use Rattle.std.specs.declared.io.ErrorKind.TheVariants as io_kind
use Rattle.clap.specs.Words.{Kinds, IsAmong, Row, fault_of, subcommand_of}
use Rattle.clap.specs.declared.error.kind.ErrorKind.{ErrorKind}
use Rattle.cdb_base.specs.Memory.{no_memory}
use Rattle.cdb_base.specs.Requests.{RequestView, Text, asked_for}
use Rattle.cdb_arguments.specs.RequestsOfRows.{NamesAsked, words_status}
use Rattle.cdb_arguments.specs.CommandLine.{program}
use Rattle.cdb_arguments.specs.Plain.{IsLine}
use Rattle.cdb_streams.specs.declared.fault.PlayFault.TheVariants.{NoMemory}
use Rattle.revdbg.specs.declared.requested.Unread.{Unread}
use Rattle.revdbg.specs.declared.requested.Unread.TheVariants as unread
use Rattle.cdb_program.specs.Known.{Seen}
use Rattle.cdb_program.specs.Requests.{Performs}
use Rattle.cdb_program.specs.declared.fault.Fault.TheVariants as fault
use Rattle.cdb_program.specs.declared.request.Action.{Action}
use Rattle.cdb_program.specs.declared.request.Action.TheVariants.{Perform, Print, Refuse}

-- this is what is performed, a session here with this prompt
abbrev pub IsPerformed : Text → RequestView → Action → Type 0
IsPerformed prompt asked (Perform request its_prompt) = (asked_for request.now ≡ asked) × (its_prompt.now ≡ prompt)
IsPerformed prompt asked action = ⊥

-- what the subcommand that `clap` found asks for is performed
abbrev pub IsRequested : Text → Option (Text × List Row) → Action → Type 0
IsRequested prompt found action = (it : RequestView) × NamesAsked found it × IsPerformed prompt it action

-- help or the version is printed where that was asked for, else the text of what is wrong is reported
abbrev pub IsRefusal : Kinds → Action → Type 0
IsRefusal kinds (Print text) = (kind : ErrorKind) × IsAmong kind kinds × (words_status kind ≡ 0)
IsRefusal kinds (Refuse (fault.Refused text)) = (kind : ErrorKind) × IsAmong kind kinds × (words_status kind ≢ 0)
IsRefusal kinds action = ⊥

-- the report that an allocation failed
abbrev pub IsOutOfMemory : Action → Type 0
IsOutOfMemory (Refuse (fault.Play (NoMemory refused) name)) = Unit {0}
IsOutOfMemory action = ⊥

-- an action of this kind, or the report that an allocation failed
abbrev pub OrOutOfMemory : (Action → Type 0) → Action → Type 0
OrOutOfMemory IsIt action = IsIt action ⊎ IsOutOfMemory action

-- The action for what arguments with these texts ask for, the program's name first. Plain ones are told without the
-- terms of `clap`. A session here has this prompt.
pub record IsAskedBy (prompt : Text) (words : List Text) (action : Action) : Type 0 where
  pub plain : (asked : RequestView) → IsLine words asked → OrOutOfMemory (IsPerformed prompt asked) action
  pub taken : fault_of program words ≡ [] → OrOutOfMemory (IsRequested prompt (subcommand_of program words)) action
  pub refused : fault_of program words ≢ [] → OrOutOfMemory (IsRefusal (fault_of program words)) action

-- why the arguments could not be read, where the system had an error of this kind: an allocation failed, or one is no
-- text
abbrev pub unread_of : IoKind → Unread
unread_of io_kind.OutOfMemory = unread.NoMemory no_memory
unread_of kind = unread.NotUtf8

-- the report that the arguments could not be read
abbrev pub IsUnread : Unread → Action → Type 0
IsUnread (unread.NoMemory refused) action = IsOutOfMemory action
IsUnread unread.NotUtf8 (Refuse (fault.Refused text)) = text.now ≡ codes "an argument is not valid UTF-8\n"
IsUnread unread.NotUtf8 action = ⊥

-- an action of this kind was performed
abbrev pub PerformsOne : (Action → Type 0) → Seen → Seen → ℕ → Type 0
PerformsOne IsIt old new status = (action : Action) × IsIt action × Performs action old new status
