-- Actions for what the arguments were found to ask for: what the code keeps for itself.
use Rattle.std.specs.Prelude.{◌≡◌, Result, Ok, Err, string_bytes}
use Rattle.clap.specs.Words.{Kinds}
use Rattle.cdb_arguments.specs.RequestsOfRows.{IsOfKinds}
use Rattle.cdb_base.specs.Requests.{Text, asked_for}
use Rattle.cdb_base.specs.declared.request.Request.{Request}
use Rattle.cdb_program.specs.declared.fault.Fault.TheVariants as fault
use Rattle.cdb_program.specs.declared.request.Action.{Action}
use Rattle.cdb_program.specs.declared.request.Action.TheVariants.{Print, Refuse}
use Rattle.revdbg.specs.Requested.{IsPerformed, IsRefusal, IsUnread, OrOutOfMemory}
use Rattle.revdbg.specs.declared.requested.ArgsError.{ArgsError}
use Rattle.revdbg.specs.declared.requested.ArgsError.TheVariants.{Unread, Refused}

-- it prints or reports this text
abbrev pub Says : Text → Action → Type 0
Says said (Print text) = text.now ≡ said
Says said (Refuse (fault.Refused text)) = text.now ≡ said
Says said action = ⊥

-- the report why the arguments ask for nothing
abbrev pub IsReportOf : ArgsError → Action → Type 0
IsReportOf (Unread reason) action = IsUnread reason action
IsReportOf (Refused fault text) action =
    ((kinds : Kinds) → IsOfKinds kinds fault → OrOutOfMemory (IsRefusal kinds) action)
    × OrOutOfMemory (Says (string_bytes text)) action

-- the action for what the arguments ask for, or that report
abbrev pub IsActionFor : Text → Result Request ArgsError → Action → Type 0
IsActionFor prompt (Ok request) action = IsPerformed prompt (asked_for request) action
IsActionFor prompt (Err error) action = IsReportOf error action

-- each action for what was found is one of this kind
abbrev pub Makes : Result Request ArgsError → (Text → Action → Type 0) → Type 0
Makes found IsIt = (prompt : Text) (action : Action) → IsActionFor prompt found action → IsIt prompt action
