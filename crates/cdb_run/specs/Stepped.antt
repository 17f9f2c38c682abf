-- What a step of a process changes of what a run holds.
use Rattle.std.specs.Prelude.{◌≡◌, ℕ, ◌<◌, ◌≤◌, true, false, length, Option, IsSome, Some}
use Rattle.cdb_base.specs.Limits.{MAX_STEPS}
use Rattle.cdb_base.specs.Positions.{nth, set_nth}
use Rattle.cdb_base.specs.declared.event.Kind.{Kind}
use Rattle.cdb_base.specs.declared.event.Kind.TheVariants.{Send, Recv, Write}
use Rattle.cdb_base.specs.declared.name.CopyName.{CopyName}
use Rattle.cdb_base.specs.declared.name.MsgName.{MsgName}
use Rattle.cdb_base.specs.declared.payload.Payload.{Payload}
use Rattle.cdb_base.specs.declared.register.Cell.{Cell}
use Rattle.cdb_message.specs.Mail.{MailState, message_name, is_sent, is_received, is_lost, add_send, add_receive}
use Rattle.cdb_process.specs.Table.{Table}
use Rattle.cdb_process.specs.Wishes.{wished_payload, wished_cell}
use Rattle.cdb_process.specs.declared.Wish.{Wish}
use Rattle.cdb_register.specs.Registers.{RegisterStates, HasRegister, MayBeWritten, after_write}
use Rattle.cdb_standing.specs.declared.recorded.UndoData.{UndoData}
use Rattle.cdb_rules.specs.InputsTaken.{sight, input_of, taken_local, mail_after, IsPostable, progress_after}
use Rattle.cdb_rules.specs.InputsTaken.{registers_after}
use Rattle.cdb_rules.specs.declared.progress.Progress.{Progress}
use Rattle.cdb_run.specs.Back.{put_back, overwritten_cell}
use Rattle.cdb_run.specs.Current.{Held}

-- what was received or lost was sent
pub record IsSentFirst (mail : MailState) : Type 0 where
  pub received : (q : ℕ) (name : MsgName) → is_received mail q name ≡ true → is_sent mail name ≡ true
  pub lost : (copy : CopyName) → is_lost mail copy ≡ true → is_sent mail copy.msg ≡ true

-- a send has a payload; a write has a cell, and finds its register, which can be written once more
abbrev pub HasDue : RegisterStates → Kind → Option Wish → Type 0
HasDue registers (Send m) wish = IsSome (wished_payload wish)
HasDue registers (Write register) wish =
    HasRegister registers register × MayBeWritten registers register × IsSome (wished_cell wish)
HasDue registers _ wish = Unit {0}

module _ {L : Type 0} (table : Table L) where
  -- the local state to which a process goes on by a step of that kind, where its machine accepts the input
  abbrev pub local_after : Held L → ℕ → Kind → Progress L → Option L
  local_after held p kind progress =
      taken_local table.next progress.local (input_of kind (sight held.mail held.registers p kind))

  -- what is held after the step, from that progress to that local state
  abbrev pub held_after : Held L → ℕ → Kind → Progress L → L → Held L
  held_after held p kind progress next =
      record {
        processes = set_nth held.processes p (progress_after progress kind next);
        mail = mail_after held.mail p kind (wished_payload (table.wish progress.local));
        registers = registers_after held.registers kind (wished_cell (table.wish progress.local));
      }

  -- process p, which has come so far, may take a step of that kind
  pub record MayStepFrom (held : Held L) (p : ℕ) (kind : Kind) (progress : Progress L) : Type 0 where
    pub alive : progress.alive ≡ true
    pub steps : progress.steps < MAX_STEPS
    pub queries : progress.queries ≤ progress.steps
    pub accepted : IsSome (local_after held p kind progress)
    pub postable : IsPostable held.mail p kind
    pub due : HasDue held.registers kind (table.wish progress.local)

  pub record MayStep (held : Held L) (p : ℕ) (kind : Kind) : Type 0 where
    pub within : p ≤ length held.processes
    pub sent_first : IsSentFirst held.mail
    pub from : (progress : Progress L) → nth held.processes p ≡ Some progress → MayStepFrom held p kind progress

  -- it has taken the step, which has left what leads back
  pub record HasStepped {B : Type 0} (before : L → B → L)
      (old : Held L) (p : ℕ) (kind : Kind) (left : UndoData B) (new : Held L) : Type 0 where
    pub may : MayStep old p kind
    pub progress : Progress L
    pub stood : nth old.processes p ≡ Some progress
    pub next : L
    pub accepted : local_after old p kind progress ≡ Some next
    pub after : new ≡ held_after old p kind progress next
    pub back : put_back before next left.back ≡ progress.local
    pub overwritten : left.overwritten ≡ overwritten_cell old.registers kind

-- the step has led to this progress of its process, from that one
pub record HasCounted {L B : Type 0} (before : L → B → L)
    (was : Progress L) (kind : Kind) (left : Option B) (now : Progress L) : Type 0 where
  pub next : L
  pub after : now ≡ progress_after was kind next
  pub alive : was.alive ≡ true
  pub back : put_back before next left ≡ was.local
