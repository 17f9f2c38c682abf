use Rattle.cdb_message.proofs.TakenBack.{sound-raised}
use Rattle.cdb_message.proofs.mail.Mail.pass_over.Goals as goal

pub invariant_of-self : goal.invariant_of-self
invariant_of-self c =
    sound-raised c.self.inside.passed _ c.self.invariant _ c.args.p c.args.s c.highest_watermark-watermark.result
    (rw (← c.self.view_is) at c.highest_watermark-watermark.ensures) c.set_watermark.ensures
