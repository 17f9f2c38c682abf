use Rattle.cdb_message.proofs.MailFlags.{is_lost-flag}
use Rattle.cdb_message.proofs.mail.Mail.lost.Goals as goal

pub returns : goal.returns
returns c =
    rw (← c.self.view_is, c.is_set.ensures, c.deref.ensures.value) (is_lost-flag c.self.inside c.cell_of_copy.result c.cell_of_copy.ensures.named)
