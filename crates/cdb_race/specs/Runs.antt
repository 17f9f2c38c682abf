-- What the seats of a race have done.
use Rattle.std.specs.Prelude.{◌≡◌, ◌≢◌, ◌⊎◌, ℕ, ◌<◌, ◌≤◌, List, [], length, take, replicate}
use Rattle.cdb_base.specs.Limits.{MAX_ENTRIES}
use Rattle.cdb_commands.specs.ReplyView.{ReplyView}
use Rattle.cdb_commands.specs.declared.command.Command.{Command}
use Rattle.cdb_commands.specs.declared.command.Command.TheVariants.{Auto}
use Rattle.cdb_race.specs.Plans.{script_of, Plan}
use Rattle.cdb_rules.specs.Rules.{Rules}
use Rattle.cdb_setup.specs.Parts.{Parts}
use Rattle.cdb_shared.specs.Seats.{SeatView, IsLater}
use Rattle.cdb_shared.specs.Sessions.{calls_of, replies_to, IsDriven}
use Rattle.cdb_shared.specs.declared.session.End.{End}
use Rattle.cdb_shared.specs.declared.session.End.TheVariants.{All, Done, JournalFull}

-- the calls of the seat are steps of its process by `auto`, as many as the turns, or fewer where the session ended
-- before
pub record HasDriven (rules : Parts → Rules) (turns : ℕ) (seat : SeatView) (end : End) : Type 0 where
  pub count : ℕ
  pub few : count ≤ turns
  pub calls : calls_of seat ≡ replicate count (Auto seat.number)
  pub ended : IsDriven end count turns (replies_to rules seat)

-- the calls of the seat are the first of these commands, and all of them where the session ended so
pub record HasServed (rules : Parts → Rules) (commands : List Command)
    (seat : SeatView) (replied : List ReplyView) (end : End) : Type 0 where
  pub calls : calls_of seat ≡ take (length replied) commands
  pub replies : replies_to rules seat ≡ replied
  pub whole : end ≡ All → length replied ≡ length commands
  pub done : end ≢ Done

-- what a seat has done when its thread has ended: the first seats drive the processes, and the others serve the scripts
pub record HasRun (rules : Parts → Rules) (plan : Plan)
    (before seat : SeatView) (replied : List ReplyView) (end : End) : Type 0 where
  pub later : IsLater before seat
  pub driven : before.number ≤ plan.processes → HasDriven rules plan.turns seat end × (replied ≡ [])
  pub served : plan.processes < before.number → HasServed rules (script_of plan before.number) seat replied end
  pub full : end ≡ JournalFull → length seat.seen ≡ MAX_ENTRIES

-- the steps of a process by `auto`: all its turns, none refused as it was done; or fewer or as many, the last alone
-- refused so
pub record IsDrivenOut (process turns : ℕ) (calls : List Command) (replied : List ReplyView) : Type 0 where
  pub count : ℕ
  pub few : count ≤ turns
  pub calls_are : calls ≡ replicate count (Auto process)
  pub ended : IsDriven All count turns replied ⊎ IsDriven Done count turns replied
