-- The positions of a history that lanes and arrows ask for.
use Rattle.std.specs.Prelude.{ℕ, suc, Bool, false, ◌&&◌, List, Option, None, Some, option_map, nat_eq, position}
use Rattle.cdb_base.specs.declared.event.Event.{Event}
use Rattle.cdb_base.specs.declared.event.Event.TheVariants.{Step, Lost}
use Rattle.cdb_base.specs.declared.event.Kind.TheVariants.{Send, Recv, Crash}
use Rattle.cdb_base.specs.declared.name.MsgName.{MsgName}
pub use Rattle.cdb_draw.specs.declared.sends.Transit.{Transit}
pub use Rattle.cdb_draw.specs.declared.sends.Transit.TheVariants.{Sent, Taken}
use Rattle.cdb_message.specs.Mail.{message_name}
use Rattle.std.specs.Option.{option_map_or}

-- what an event does with a message: it sends it, or it receives or loses a copy
abbrev pub transit_of : Event → Option Transit
transit_of (Step p k (Send m)) = Some (Sent (message_name p m))
transit_of (Step p k (Recv s m)) = Some (Taken (record { msg = message_name s m; to = p }))
transit_of (Lost copy) = Some (Taken copy)
transit_of event = None

abbrev pub same_message : MsgName → MsgName → Bool
same_message one other = nat_eq one.s other.s && nat_eq one.m other.m

abbrev pub same_transit : Transit → Transit → Bool
same_transit (Sent one) (Sent other) = same_message one other
same_transit (Taken one) (Taken other) = nat_eq one.to other.to && same_message one.msg other.msg
same_transit one other = false

abbrev pub does : Transit → Event → Bool
does transit event = option_map_or (same_transit transit) (transit_of event) false

-- where that was first done
abbrev pub passed_at : List Event → Transit → Option ℕ
passed_at history transit = option_map suc (position (does transit) history)

-- the event is a crash of process p
abbrev pub is_crash_of : ℕ → Event → Bool
is_crash_of p (Step q k Crash) = nat_eq q p
is_crash_of p _ = false

-- where process p crashed
abbrev pub crashed_at : List Event → ℕ → Option ℕ
crashed_at history p = option_map suc (position (is_crash_of p) history)
