-- What the code keeps for itself: a table of the positions at which messages were sent, and copies received or lost.
use Rattle.std.specs.HashMap.{HashMap, get}
use Rattle.std.specs.Prelude.{◌≡◌, ℕ, suc, ◌+◌, ◌*◌, ◌^◌, ◌<◌, ◌≤◌, Bool, List, [], ◌∷◌, ◌++◌}
use Rattle.std.specs.Prelude.{length, Option, None, Some, nat_eq, if◌then◌else◌}
use Rattle.cdb_base.specs.declared.event.Event.{Event}
use Rattle.cdb_base.specs.declared.name.MsgName.{MsgName}
use Rattle.cdb_draw.specs.Positions.{passed_at, Transit, Sent, Taken}

-- the numbers of names; that of a copy has its receiver in it, from 1
abbrev pub message_code : MsgName → ℕ
message_code name = name.s * 2 ^ 16 + name.m

abbrev pub transit_code : Transit → ℕ
transit_code (Sent name) = message_code name * 16
transit_code (Taken copy) = message_code copy.msg * 16 + copy.to

-- a name whose parts fit into the number
abbrev pub Fits : Transit → Type 0
Fits (Sent name) = name.m < 2 ^ 16
Fits (Taken copy) = ((copy.msg).m < 2 ^ 16) × (1 ≤ copy.to) × (copy.to < 16)

-- what was noted before, or else the position where the test holds
abbrev pub kept_or_noted : Option ℕ → Bool → ℕ → Option ℕ
kept_or_noted (Some kept) holds position = Some kept
kept_or_noted None holds position = if holds then Some position else None

-- for each name that fits, the table has where that was first done
abbrev pub ArePlaces : {S : Type 0} → HashMap ℕ ℕ S → List Event → Type 0
ArePlaces table history =
    (transit : Transit) → Fits transit → get nat_eq table (transit_code transit) ≡ passed_at history transit

-- the table got that of the next event, at this position
abbrev pub HasNoted : {S : Type 0} → HashMap ℕ ℕ S → HashMap ℕ ℕ S → ℕ → Event → Type 0
HasNoted old new position event =
    (before : List Event) → suc (length before) ≡ position → ArePlaces old before
    → ArePlaces new (before ++ event ∷ [])
