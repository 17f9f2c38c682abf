use Rattle.std.proofs.Common.{◌≤◌}
use Rattle.cdb_base.specs.declared.name.MsgName.{MsgName}
use Rattle.cdb_message.specs.Search.{IsNext}
use Rattle.cdb_message.proofs.mail.Mail.pending.Given as goal

-- no message of a sender so far is pending
abbrev pub invariant-loop-s : goal.invariant-loop-s
invariant-loop-s l = (name : MsgName) → IsNext l.self l.p l.after name → l.s ≤ name.s
