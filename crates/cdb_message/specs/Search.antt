-- The look for a pending copy.
use Rattle.std.specs.Prelude.{◌≡◌, ℕ, false, nat_le, IsTrue, Option, None, Some}
use Rattle.cdb_base.specs.declared.name.MsgName.{MsgName}
use Rattle.cdb_message.specs.Mail.{MailState, message_name, IsPending, is_above}
use Rattle.cdb_message.specs.Names.{is_name_below}

-- the least of those names, where there is one
abbrev pub IsLeastOf : (MsgName → Type 0) → Option MsgName → Type 0
IsLeastOf Among None = (name : MsgName) → Among name → ⊥
IsLeastOf Among (Some name) = Among name × ((other : MsgName) → Among other → is_name_below other name ≡ false)

-- the message is pending for p, and stands above `after`
abbrev pub IsNext : MailState → ℕ → Option MsgName → MsgName → Type 0
IsNext mail p after name = IsPending mail p name × IsTrue (is_above after name)

-- the names of s that stand above the other name are those from the number `low` on
abbrev pub IsLowestAbove : Option MsgName → ℕ → ℕ → Type 0
IsLowestAbove after s low = (m : ℕ) → is_above after (message_name s m) ≡ nat_le low m

-- no name of s stands above the other
abbrev pub HasNoneAbove : Option MsgName → ℕ → Type 0
HasNoneAbove after s = (m : ℕ) → is_above after (message_name s m) ≡ false
