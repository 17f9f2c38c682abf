use Rattle.std.proofs.Common.{length, ap, arith}
use Rattle.std.proofs.lemmas.Grind.{common_steps}
use Rattle.cdb_message.proofs.mail.Mail.new.Goals as goal

pub invariant_of-result : goal.invariant_of-result
invariant_of-result c =
    let sent = ap length c.loop.invariant.0 in
    let received = ap length c.loop.invariant.1 in (
      grind (arith, common_steps),
      grind (arith, common_steps),
      λ p s m from is. absurd (c.new-passed.ensures p s m from is),
    )
