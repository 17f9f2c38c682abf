-- A reply as a contract sees it, with lists where the program has vectors.
use Rattle.std.specs.Prelude.{ℕ, Bool, true, false, List, Option}
use Rattle.cdb_base.specs.declared.event.Event.{Event}
use Rattle.cdb_base.specs.declared.name.MsgName.{MsgName}
use Rattle.cdb_base.specs.declared.name.StepId.{StepId}
use Rattle.cdb_base.specs.declared.payload.Payload.{Payload}
use Rattle.cdb_base.specs.declared.refusal.Refusal.{Refusal}
use Rattle.cdb_base.specs.declared.register.Cell.{Cell}
use Rattle.cdb_base.specs.declared.proc_view.ProcView.{ProcView}
use Rattle.cdb_commands.specs.declared.reply.Reply.{Reply}
use Rattle.cdb_commands.specs.declared.reply.Reply.TheVariants as reply

pub data ReplyView : Type 0 where
  Stepped : Event → Option ℕ → Option ℕ → ReplyView
  Undone : Event → ReplyView
  Redone : Event → Option ℕ → ReplyView
  RolledBack : ℕ → ReplyView
  Because : StepId → List StepId → ReplyView
  BreakSet : ℕ → ReplyView
  BreakGone : ℕ → ReplyView
  Resumed : ReplyView
  Forgot : ℕ → ReplyView
  Proc : ProcView → ReplyView
  Regs : List Cell → ReplyView
  Mail : List (ℕ × MsgName × Payload) → ReplyView
  History : List Event → ReplyView
  Decisions : List (ℕ × ℕ) → ReplyView
  Refused : Refusal → ReplyView

-- whether it is a refusal
abbrev pub is_refused : ReplyView → Bool
is_refused (Refused why) = true
is_refused _ = false

abbrev pub reply_view : Reply → ReplyView
reply_view (reply.Stepped event decides paused) = Stepped event decides paused
reply_view (reply.Undone event) = Undone event
reply_view (reply.Redone event decides) = Redone event decides
reply_view (reply.RolledBack count) = RolledBack count
reply_view (reply.Because event causes) = Because event causes.items
reply_view (reply.BreakSet number) = BreakSet number
reply_view (reply.BreakGone number) = BreakGone number
reply_view reply.Resumed = Resumed
reply_view (reply.Forgot count) = Forgot count
reply_view (reply.Proc view) = Proc view
reply_view (reply.Regs cells) = Regs cells.items
reply_view (reply.Mail copies) = Mail copies.items
reply_view (reply.History events) = History events.items
reply_view (reply.Decisions pairs) = Decisions pairs.items
reply_view (reply.Refused refusal) = Refused refusal
