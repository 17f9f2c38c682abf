-- From what a thread has done to what its seat has finished, where its session met no fault.
use Rattle.std.proofs.Common.{◌≡◌, inl, inr, ℕ, List, None, refl, length, take, take_all, ap, ◌∙◌, arith}
use Rattle.cdb_commands.specs.ReplyView.{ReplyView}
use Rattle.cdb_commands.specs.declared.command.Command.{Command}
use Rattle.cdb_race.specs.Faults.{fault_at}
use Rattle.cdb_race.specs.Runs.{HasDriven, HasServed, IsDrivenOut}
use Rattle.cdb_rules.specs.Rules.{Rules}
use Rattle.cdb_setup.specs.Parts.{Parts}
use Rattle.cdb_shared.specs.Seats.{SeatView}
use Rattle.cdb_shared.specs.Sessions.{calls_of, replies_to}
use Rattle.cdb_shared.specs.declared.session.End.{End}
use Rattle.cdb_shared.specs.declared.session.End.TheVariants.{All, Done, Stopped, NoMemory, JournalFull}

pub driven_out : (rules : Parts → Rules) (turns : ℕ) (seat : SeatView) (end : End) → fault_at seat.number end ≡ None
    → HasDriven rules turns seat end → IsDrivenOut seat.number turns (calls_of seat) (replies_to rules seat)
driven_out rules turns seat All none h = record { count = h.count; few = h.few; calls_are = h.calls; ended = inl h.ended }
driven_out rules turns seat Done none h = record { count = h.count; few = h.few; calls_are = h.calls; ended = inr h.ended }
driven_out rules turns seat Stopped none h = absurd (cc)
driven_out rules turns seat (NoMemory refused) none h = absurd (cc)
driven_out rules turns seat JournalFull none h = absurd (cc)

pub served_out : (rules : Parts → Rules) (commands : List Command) (seat : SeatView) (replied : List ReplyView) (end : End)
    → fault_at seat.number end ≡ None → HasServed rules commands seat replied end → (calls_of seat ≡ commands) × (replies_to rules seat ≡ replied)
served_out rules commands seat replied All none h =
    (h.calls ∙ ap (λ n. take n commands) (h.whole refl) ∙ take_all (length commands) commands (omega arith), h.replies)
served_out rules commands seat replied Done none h = absurd (h.done refl)
served_out rules commands seat replied Stopped none h = absurd (cc)
served_out rules commands seat replied (NoMemory refused) none h = absurd (cc)
served_out rules commands seat replied JournalFull none h = absurd (cc)
