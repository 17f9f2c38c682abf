use Rattle.cdb_message.proofs.MailFlags.{is_received-flag}
use Rattle.cdb_message.proofs.mail.Mail.has_received.Goals as goal

pub returns : goal.returns
returns c =
    rw (← c.self.view_is, c.is_set.ensures, c.deref.ensures.value) (is_received-flag c.self.inside
    c.index.result c.index.ensures.value (rw (← c.self.view_is) at c.requires) c.index-2.ensures
    c.cell_of_name.result c.cell_of_name.ensures.named)
