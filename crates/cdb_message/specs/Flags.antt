-- Sets of names and of copies as tables of flags, in which each has a cell.
use Rattle.std.specs.Prelude.{◌≡◌, ℕ, zero, suc, ◌+◌, ◌/◌, ◌%◌, ◌==◌, Bool, false, List, length, map, Vec}
use Rattle.std.specs.Prelude.{slice_index_or, if◌then◌else◌}
use Rattle.std.specs.Global.{Global}
use Rattle.std.specs.declared.cmp.Ordering.{Ordering}
use Rattle.std.specs.FinSet as set
use Rattle.cdb_base.specs.declared.name.MsgName.{MsgName}
use Rattle.cdb_base.specs.declared.name.CopyName.{CopyName}
use Rattle.cdb_base.specs.declared.payload.Payload.{Payload}
use Rattle.cdb_message.specs.Mail.{MailState, message_name, copy_name}
use Rattle.cdb_message.specs.Names.{NameSet, CopySet}

-- the flag in a cell; beyond the end of the table none is set
abbrev pub flag_in : List Bool → ℕ → Bool
flag_in flags cell = slice_index_or flags cell false

-- the flag in one cell is this one, and all others stay
abbrev pub SetsFlag : List Bool → List Bool → ℕ → Bool → Type 0
SetsFlag old new cell flag = (n : ℕ) → flag_in new n ≡ (if n == cell then flag else flag_in old n)

-- the keys of the first n cells whose flags are set
abbrev pub keys_below : {K : Type 0} → {R : K → K → Ordering} → (ℕ → K) → List Bool → ℕ → set.FinSet R
keys_below key_at flags zero = set.empty
keys_below key_at flags (suc n) =
    let keys = keys_below key_at flags n in
    if flag_in flags n then set.insert keys (key_at n) else keys

-- more than there are cells
abbrev pub cells : ℕ
cells = 9437184

-- the name with that cell
abbrev pub name_at : ℕ → MsgName
name_at cell = message_name (cell % 9 + 1) (cell / 9)

abbrev pub names_in : List Bool → NameSet
names_in flags = keys_below name_at flags (length flags)

-- the copy with that cell
abbrev pub copy_at : ℕ → CopyName
copy_at cell = copy_name (name_at (cell / 9)) (cell % 9 + 1)

abbrev pub copies_in : List Bool → CopySet
copies_in flags = keys_below copy_at flags (length flags)

-- the mail whose receives and losses are told by flags
abbrev pub mail_in : List (List Payload) → List (Vec Bool Global) → List Bool → MailState
mail_in sent received lost =
    record { sent = sent; received = map (λ flags. names_in flags.items) received; lost = copies_in lost }
