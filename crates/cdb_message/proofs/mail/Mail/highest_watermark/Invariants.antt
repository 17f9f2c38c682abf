use Rattle.std.proofs.Common.{◌≡◌, ℕ, ◌-◌, ◌≤◌, false}
use Rattle.cdb_message.specs.Mail.{message_name, is_open}
use Rattle.cdb_message.proofs.mail.Mail.highest_watermark.Given as goal

-- no copy up to the watermark is open
abbrev pub invariant-loop-mark : goal.invariant-loop-mark
invariant-loop-mark l = (m : ℕ) → 1 ≤ m → m ≤ l.mark → is_open l.self l.p (message_name l.s m) ≡ false

abbrev pub decreases-loop-mark : goal.decreases-loop-mark
decreases-loop-mark l = l.count - l.mark
