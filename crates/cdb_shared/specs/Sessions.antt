-- What sessions do: a seat's own calls, the replies to them, and how a driven seat ends.
use Rattle.std.specs.Prelude.{◌≡◌, ◌≢◌, ℕ, ◌<◌, List, [], ◌∷◌, ◌++◌}
use Rattle.std.specs.List.{AllByRecursion}
use Rattle.cdb_base.specs.declared.refusal.Refusal.TheVariants as refusal
use Rattle.cdb_commands.specs.declared.command.Command.{Command}
use Rattle.cdb_commands.specs.ReplyView.{ReplyView, Refused}
use Rattle.cdb_control.specs.declared.control.CallFault.{CallFault}
use Rattle.cdb_control.specs.declared.control.CallFault.TheVariants.{JournalFull, NoMemory}
use Rattle.cdb_control.specs.Journal.{own, replies_of}
use Rattle.cdb_rules.specs.Rules.{Rules}
use Rattle.cdb_setup.specs.Parts.{Parts}
use Rattle.cdb_shared.specs.declared.session.End.{End}
use Rattle.cdb_shared.specs.declared.session.End.TheVariants.{All, Done, Stopped, NoMemory as Short}
use Rattle.cdb_shared.specs.declared.session.End.TheVariants.{JournalFull as Full}
use Rattle.cdb_shared.specs.Seats.{SeatView}

-- the seat's own calls in what it has seen
abbrev pub calls_of : SeatView → List Command
calls_of seat = own seat.number seat.seen

-- the replies to them
abbrev pub replies_to : (Parts → Rules) → SeatView → List ReplyView
replies_to rules seat = replies_of (rules seat.setup) seat.setup seat.seats seat.number seat.seen

-- how a session ends at a fault
abbrev pub end_at : CallFault → End
end_at JournalFull = Full
end_at (NoMemory refused) = Short refused

-- none of these is the refusal of a process that is done
abbrev pub NoneDone : List ReplyView → Type 0
NoneDone replies = AllByRecursion (λ r. r ≢ Refused refusal.Done) replies

-- how a driven seat ended, after this many turns of those allowed, by its replies
abbrev pub IsDriven : End → ℕ → ℕ → List ReplyView → Type 0
IsDriven Done count turns replies =
    (front : List ReplyView) × (replies ≡ front ++ Refused refusal.Done ∷ []) × NoneDone front
IsDriven All count turns replies = (count ≡ turns) × NoneDone replies
IsDriven Stopped count turns replies = (count < turns) × NoneDone replies
IsDriven (Short refused) count turns replies = (count < turns) × NoneDone replies
IsDriven Full count turns replies = (count < turns) × NoneDone replies
