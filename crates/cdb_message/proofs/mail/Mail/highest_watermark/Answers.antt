use Rattle.std.proofs.Common.{◌+◌, inl, inr, arith}
use Rattle.std.proofs.lemmas.Bool.{cases_lt}
use Rattle.std.proofs.lemmas.Grind.{common_steps}
use Rattle.cdb_message.proofs.mail.Mail.highest_watermark.Goals as goal

pub loop-mark-init : goal.loop-mark-init
loop-mark-init c = λ m from to. rw (← c.self.view_is) (c.self.invariant.2 c.args.p c.args.s m from (c.watermark-mark.ensures m to))

pub loop-mark-preserved : goal.loop-mark-preserved
loop-mark-preserved c = λ m from to.
    elim (cases_lt (c.loop-mark.mark + 1) m) [
      | inl above ↦ rw (← c.self.view_is) (c.self.invariant.2 c.args.p c.args.s m from (c.behind-mark.ensures.passed m above to))
      | inr below ↦ (let before = c.loop-mark.invariant m from in grind (arith, common_steps))
    ]
