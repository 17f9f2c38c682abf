use Rattle.std.proofs.Common.{sym, ◌∙◌, subst}
use Rattle.cdb_message.specs.Mail.{copy_name}
use Rattle.cdb_message.specs.Passed.{IsSound}
use Rattle.cdb_message.proofs.MailFlags.{remove_loss-flag}
use Rattle.cdb_message.proofs.TakenBack.{sound-remove_loss, remove_loss-add_loss}
use Rattle.cdb_message.proofs.mail.Mail.take_back_lose.Goals as goal

pub invariant_of-self : goal.invariant_of-self
invariant_of-self c = subst (IsSound _) (sym (remove_loss-flag c.self.inside
    c.cell_of_copy.result c.cell_of_copy.ensures.named c.clear.new.flags.items c.clear.ensures))
    (sound-remove_loss c.self.inside.passed _ c.self.invariant _ c.args.p c.args.name c.leave_out.ensures)

pub returns-clause-after : goal.returns-clause-after
returns-clause-after c = rw (← c.self.view_is) (remove_loss-flag c.self.inside
    c.cell_of_copy.result c.cell_of_copy.ensures.named c.clear.new.flags.items c.clear.ensures)

pub returns-clause-undoes : goal.returns-clause-undoes
returns-clause-undoes c = λ mail fresh was.
    returns-clause-after c ∙ rw was (remove_loss-add_loss mail (copy_name c.args.name c.args.p) fresh)
