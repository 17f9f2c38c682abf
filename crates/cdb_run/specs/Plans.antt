-- What a step of one process returns, by its progress, the mail and the registers as they stand.
use Rattle.std.specs.Prelude.{◌≡◌, ℕ, ◌+◌, ◌≤◌, Bool, true, false, not, nat_le, ◌==◌, [], ◌∷◌, length, Option}
use Rattle.std.specs.Prelude.{option_and_then, Result, Ok, Err, if◌then◌else◌}
use Rattle.std.specs.Result.{result_ok}
use Rattle.cdb_base.specs.declared.act.Act.{Act}
use Rattle.cdb_base.specs.declared.act.Act.TheVariants as act
use Rattle.cdb_base.specs.declared.event.Event.{Event}
use Rattle.cdb_base.specs.declared.event.Event.TheVariants.{Step}
use Rattle.cdb_base.specs.declared.event.Kind.{Kind}
use Rattle.cdb_base.specs.Limits.{MAX_STEPS}
use Rattle.cdb_base.specs.declared.name.MsgName.{MsgName}
use Rattle.cdb_base.specs.declared.refusal.Refusal.{Refusal}
use Rattle.cdb_base.specs.declared.refusal.Refusal.TheVariants as refusal
use Rattle.cdb_message.specs.Mail.{MailState, copy_name, sent_by, is_sent, is_received, is_lost}
use Rattle.cdb_process.specs.Table.{Table}
use Rattle.cdb_rules.specs.Machines.{machine_of}
use Rattle.cdb_rules.specs.Refusals.{first_refusal, accepts_kind, planned, planned_again}
use Rattle.cdb_run.specs.declared.plan.Seen.{Seen}

-- why the copy of a message for process p can be neither received nor lost
abbrev pub copy_refusal : MailState → ℕ → MsgName → Option Refusal
copy_refusal mail p name =
    first_refusal (
    (not (is_sent mail name), refusal.NoMessage)
    ∷ (is_received mail p name, refusal.Taken)
    ∷ (is_lost mail (copy_name name p), refusal.Lost)
    ∷ []
    )

-- how many messages the process has sent
abbrev pub sends_of : {L : Type 0} → Seen L → ℕ
sends_of seen = length (sent_by seen.mail.now seen.p)

-- the process is one of those of the mail, with counts that it may have
pub record IsInRun {L : Type 0} (seen : Seen L) : Type 0 where
  pub among : seen.p ≤ length seen.mail.now.received
  pub steps : seen.progress.now.steps ≤ MAX_STEPS
  pub queries : seen.progress.now.queries ≤ MAX_STEPS

module _ {L : Type 0} (table : Table L) (seen : Seen L) where
  -- it has neither crashed nor decided
  pub record GoesOn : Type 0 where
    pub in_run : IsInRun seen
    pub alive : seen.progress.now.alive ≡ true
    pub going : (table.place seen.progress.now.local == table.last_place) ≡ false

  -- whether its machine accepts a step of that kind
  abbrev pub accepts : Kind → Bool
  accepts kind =
      accepts_kind (machine_of table seen.setup.now) seen.progress.now.local (sends_of seen) seen.registers.now kind

  -- what a step of it returns, and its k-th step taken again
  abbrev pub plan_of : Act → Result Event Refusal
  plan_of act =
      planned (machine_of table seen.setup.now) seen.setup.now seen.mail.now seen.registers.now seen.progress.now
      seen.p act

  abbrev pub plan_again_of : ℕ → Kind → Result Event Refusal
  plan_again_of k kind =
      planned_again (machine_of table seen.setup.now) seen.mail.now seen.registers.now seen.progress.now seen.p k kind

-- its next step, where it has fewer than it may have
abbrev pub next_step_of : {L : Type 0} → Seen L → Kind → Result Event Refusal
next_step_of seen kind =
    if nat_le MAX_STEPS seen.progress.now.steps then Err refusal.StepLimit
    else Ok (Step seen.p (seen.progress.now.steps + 1) kind)

-- the same where its machine accepts a step of that kind
abbrev pub step_if_accepted : {L : Type 0} → Table L → Seen L → Kind → Result Event Refusal
step_if_accepted table seen kind = if accepts table seen kind then next_step_of seen kind else Err refusal.NotNow

-- the receive of that copy, which is the least pending, where a step of it is not refused
abbrev pub receive_of : (Act → Result Event Refusal) → Option MsgName → Option Event
receive_of step pending = option_and_then (λ name. result_ok (step (act.Recv name.s name.m))) pending
