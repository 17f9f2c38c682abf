use Rattle.std.proofs.Common.{◌≡◌, ℕ, ◌<◌, ◌≤◌, false}
use Rattle.cdb_message.specs.Mail.{message_name, is_open}
use Rattle.cdb_message.proofs.mail.Mail.first_open.Given as goal

-- no message so far is open
abbrev pub invariant-loop-m : goal.invariant-loop-m
invariant-loop-m l = (j : ℕ) → l.low ≤ j → j < l.m → is_open l.self l.p (message_name l.s j) ≡ false
