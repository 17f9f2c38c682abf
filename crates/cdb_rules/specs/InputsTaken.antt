-- A step: what it meets outside of its process, what its machine is given, and what it leaves.
use Rattle.std.specs.Prelude.{ℕ, ◌+◌, Bool, false, Option, Some, None, option_map}
use Rattle.std.specs.Prelude.{if◌then◌else◌, ◌≡◌, ◌<◌, ◌≤◌, length, IsTrue}
use Rattle.cdb_base.specs.declared.event.Kind.{Kind}
use Rattle.cdb_base.specs.declared.event.Kind.TheVariants.{Query, Send, Recv, Read, Write, Local, Learn, Crash}
use Rattle.cdb_base.specs.declared.name.MsgName.{MsgName}
use Rattle.cdb_base.specs.declared.payload.Payload.{Payload}
use Rattle.cdb_base.specs.declared.register.Cell.{Cell}
use Rattle.cdb_message.specs.Mail.{MailState, message_name, copy_name, payload_of, is_lost}
use Rattle.cdb_message.specs.Mail.{sent_by, is_sent, is_received, add_send, add_receive}
use Rattle.cdb_process.specs.declared.Input.{Input}
use Rattle.cdb_process.specs.declared.Input.TheVariants as input
use Rattle.cdb_register.specs.Registers.{RegisterStates, register_of, with_register, put_cell}
use Rattle.cdb_register.specs.declared.RegisterState.{RegisterState}
use Rattle.cdb_rules.specs.declared.progress.Progress.{Progress}
use Rattle.cdb_base.specs.Limits.{MAX_STEPS}

-- at a receive the message's payload, where the copy is not lost; at a read or a write the register as it stands
pub record Sight : Type 0 where
  pub message : Option Payload
  pub register : Option RegisterState

-- the payload that a receive of that message by p meets
abbrev pub arriving : MailState → ℕ → MsgName → Option Payload
arriving mail p name = if is_lost mail (copy_name name p) then None else payload_of mail name

abbrev pub sight : MailState → RegisterStates → ℕ → Kind → Sight
sight mail registers p (Recv s m) = record { message = arriving mail p (message_name s m); register = None }
sight mail registers p (Read register) = record { message = None; register = register_of registers register }
sight mail registers p (Write register) = record { message = None; register = register_of registers register }
sight mail registers p _ = record { message = None; register = None }

-- what the machine is given at a step of that kind
abbrev pub input_of : Kind → Sight → Option Input
input_of (Query leader) around = Some (input.Query leader)
input_of (Send m) around = Some input.Send
input_of (Recv s m) around = option_map (input.Recv s) around.message
input_of (Read register) around = option_map (λ stands. input.Read register stands.cell) around.register
input_of (Write register) around = option_map (λ stands. input.Write register) around.register
input_of Local around = Some input.Local
input_of Learn around = Some input.Learn
input_of Crash around = None

-- the local state after that input; a step without an input leaves it as it is
abbrev pub taken_local : {L : Type 0} → (L → Input → Option L) → L → Option Input → Option L
taken_local next local None = Some local
taken_local next local (Some given) = next local given

abbrev pub alive_after : Bool → Kind → Bool
alive_after alive Crash = false
alive_after alive _ = alive

abbrev pub queries_after : ℕ → Kind → ℕ
queries_after queries (Query leader) = queries + 1
queries_after queries _ = queries

abbrev pub progress_after : {L : Type 0} → Progress L → Kind → L → Progress L
progress_after progress kind next =
    record {
      local = next;
      alive = alive_after progress.alive kind;
      steps = progress.steps + 1;
      queries = queries_after progress.queries kind;
    }

abbrev pub registers_after : RegisterStates → Kind → Option Cell → RegisterStates
registers_after registers (Write register) (Some cell) = with_register (put_cell cell) registers register
registers_after registers _ _ = registers

-- the mail after a step of p
abbrev pub mail_after : MailState → ℕ → Kind → Option Payload → MailState
mail_after mail p (Send m) (Some payload) = add_send mail p payload
mail_after mail p (Recv s m) payload = add_receive mail p (message_name s m)
mail_after mail p _ payload = mail

-- p can send one message more, or its copy of the message was sent and neither received nor lost
abbrev pub IsPostable : MailState → ℕ → Kind → Type 0
IsPostable mail p (Send m) = (p ≤ length mail.sent) × (length (sent_by mail p) < MAX_STEPS)
IsPostable mail p (Recv s m) =
    (p ≤ length mail.received) × IsTrue (is_sent mail (message_name s m))
    × (is_received mail p (message_name s m) ≡ false)
    × (is_lost mail (copy_name (message_name s m) p) ≡ false)
IsPostable mail p _ = Unit {0}
