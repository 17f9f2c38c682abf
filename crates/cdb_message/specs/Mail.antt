-- What was sent, received and lost: for each process the list of payloads that it sent and the set of
-- the names that it received, each in order of process, and the set of the copies that are lost.
use Rattle.std.specs.Prelude.{◌≡◌, ℕ, ◌+◌, ◌<◌, Bool, true, false, not, ◌&&◌, IsTrue, length}
use Rattle.std.specs.Prelude.{List, [], ◌∷◌, ◌++◌, map, filter, find, replicate}
use Rattle.std.specs.Prelude.{Option, None, Some, is_some, unwrap_or}
use Rattle.std.specs.List.{flat_map, range_with_len}
use Rattle.std.specs.FinSet as set
use Rattle.cdb_base.specs.Positions.{nth, set_nth, without_last}
use Rattle.cdb_base.specs.Processes.{all_processes}
use Rattle.cdb_base.specs.Limits.{MAX_STEPS}
use Rattle.cdb_base.specs.declared.name.MsgName.{MsgName}
use Rattle.cdb_base.specs.declared.name.CopyName.{CopyName}
use Rattle.cdb_base.specs.declared.payload.Payload.{Payload}
use Rattle.cdb_message.specs.Names.{NameSet, CopySet, is_name_below}

pub record MailState : Type 0 where
  pub sent : List (List Payload)
  pub received : List NameSet
  pub lost : CopySet

-- nobody has sent anything
abbrev pub first_mail : ℕ → MailState
first_mail n = record { sent = replicate n []; received = replicate n set.empty; lost = set.empty }

-- the m-th message of process s
abbrev pub message_name : ℕ → ℕ → MsgName
message_name s m = record { s = s; m = m }

-- its copy for process p
abbrev pub copy_name : MsgName → ℕ → CopyName
copy_name name p = record { msg = name; to = p }

-- the payloads that p sent, in order
abbrev pub sent_by : MailState → ℕ → List Payload
sent_by mail p = unwrap_or (nth mail.sent p) []

-- the names that p received
abbrev pub received_by : MailState → ℕ → NameSet
received_by mail p = unwrap_or (nth mail.received p) set.empty

-- the name of the last message that p sent
abbrev pub last_name : MailState → ℕ → MsgName
last_name mail p = message_name p (length (sent_by mail p))

-- the name of the next message that p sends
abbrev pub next_name : MailState → ℕ → MsgName
next_name mail p = message_name p (length (sent_by mail p) + 1)

-- each send is a step, so p sends at most as many messages as it has steps
abbrev pub MaySend : MailState → ℕ → Type 0
MaySend mail p = length (sent_by mail p) < MAX_STEPS

-- the payload of the message of that name, if it was sent
abbrev pub payload_of : MailState → MsgName → Option Payload
payload_of mail name = nth (sent_by mail name.s) name.m

-- the message was sent
abbrev pub is_sent : MailState → MsgName → Bool
is_sent mail name = is_some (payload_of mail name)

-- the name is that of the m-th message of process s, which was sent
abbrev pub IsNameOfSent : MailState → ℕ → ℕ → MsgName → Type 0
IsNameOfSent mail s m name = (name ≡ message_name s m) × IsTrue (is_sent mail (message_name s m))

-- process s sent no m-th message
abbrev pub IsUnsent : MailState → ℕ → ℕ → Type 0
IsUnsent mail s m = is_sent mail (message_name s m) ≡ false

-- p received the message
abbrev pub is_received : MailState → ℕ → MsgName → Bool
is_received mail p name = set.contains (received_by mail p) name

-- the copy is lost
abbrev pub is_lost : MailState → CopyName → Bool
is_lost mail copy = set.contains mail.lost copy

-- ---- what happens, and the way back

-- p sent one payload more
abbrev pub add_send : MailState → ℕ → Payload → MailState
add_send mail p payload =
    record mail { sent = set_nth mail.sent p (sent_by mail p ++ payload ∷ []) }

-- p received one message more
abbrev pub add_receive : MailState → ℕ → MsgName → MailState
add_receive mail p name =
    record mail { received = set_nth mail.received p (set.insert (received_by mail p) name) }

-- one copy more is lost
abbrev pub add_loss : MailState → CopyName → MailState
add_loss mail copy = record mail { lost = set.insert mail.lost copy }

-- p's last send is taken back
abbrev pub remove_send : MailState → ℕ → MailState
remove_send mail p =
    record mail { sent = set_nth mail.sent p (without_last (sent_by mail p)) }

-- p's receive of that message is taken back
abbrev pub remove_receive : MailState → ℕ → MsgName → MailState
remove_receive mail p name =
    record mail { received = set_nth mail.received p (set.remove (received_by mail p) name) }

-- the copy is no longer lost
abbrev pub remove_loss : MailState → CopyName → MailState
remove_loss mail copy = record mail { lost = set.remove mail.lost copy }

-- the mail from which a send by p leads to the old one is the new one
abbrev pub TakesBackSend : MailState → ℕ → MailState → Type 0
TakesBackSend old p new =
    (mail : MailState) (sent : Payload) → old ≡ add_send mail p sent → new ≡ mail

-- so with a receive by p of a message that it had not received
abbrev pub TakesBackReceive : MailState → ℕ → MsgName → MailState → Type 0
TakesBackReceive old p name new =
    (mail : MailState) → is_received mail p name ≡ false
    → old ≡ add_receive mail p name → new ≡ mail

-- so with the loss of a copy that was not lost
abbrev pub TakesBackLoss : MailState → CopyName → MailState → Type 0
TakesBackLoss old copy new =
    (mail : MailState) → is_lost mail copy ≡ false → old ≡ add_loss mail copy → new ≡ mail

-- ---- which copies are still to be received

-- the names of the messages that process s sent, in order
abbrev pub messages_of : MailState → ℕ → List MsgName
messages_of mail s = map (message_name s) (range_with_len 1 (length (sent_by mail s)))

-- the names of all messages that were sent, in order of sender and number
abbrev pub sent_names : MailState → List MsgName
sent_names mail = flat_map (messages_of mail) all_processes

-- the copy of the message for p was neither received nor lost
abbrev pub is_open : MailState → ℕ → MsgName → Bool
is_open mail p name = not (is_received mail p name) && not (is_lost mail (copy_name name p))

-- the messages whose copies for p are still to be received
abbrev pub copies_for : MailState → ℕ → List MsgName
copies_for mail p = filter (is_open mail p) (sent_names mail)

-- the name stands above the other, if there is one
abbrev pub is_above : Option MsgName → MsgName → Bool
is_above None name = true
is_above (Some after) name = is_name_below after name

-- the message was sent, and p neither received its copy nor is this copy lost
abbrev pub IsPending : MailState → ℕ → MsgName → Type 0
IsPending mail p name = IsTrue (is_sent mail name) × IsTrue (is_open mail p name)

-- of the pending messages above `after`, this is the least
pub record IsLeastPending (mail : MailState) (p : ℕ) (after : Option MsgName) (name : MsgName) : Type 0 where
  pub pending : IsPending mail p name
  pub above : IsTrue (is_above after name)
  pub least : (other : MsgName) → IsPending mail p other
      → IsTrue (is_above after other) → is_name_below other name ≡ false

-- no pending message is above `after`
abbrev pub HasNonePending : MailState → ℕ → Option MsgName → Type 0
HasNonePending mail p after =
    (name : MsgName) → IsPending mail p name → is_above after name ≡ false

-- the first of these copies above `after`, which is the least pending one
abbrev pub next_pending : MailState → ℕ → Option MsgName → Option MsgName
next_pending mail p after = find (is_above after) (copies_for mail p)
