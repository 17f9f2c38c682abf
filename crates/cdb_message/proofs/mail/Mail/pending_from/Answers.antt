use Rattle.std.proofs.Common.{arith}
use Rattle.cdb_message.proofs.Least.{least-behind}
use Rattle.cdb_message.proofs.mail.Mail.pending_from.Goals as goal

pub returns : goal.returns
returns c =
    least-behind c.args.self.now c.args.p c.args.after c.args.s c.in_ok-low.low c.watermark.result c.max.result _
    c.in_ok-low.ensures.some (λ m from to. rw (← c.self.view_is) (c.self.invariant.2 c.args.p c.args.s m from (c.watermark.ensures m to)))
    (omega arith) c.first_open.ensures
