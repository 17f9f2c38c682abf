use Rattle.std.proofs.Common.{sym, ◌∙◌, subst}
use Rattle.cdb_message.specs.Passed.{IsSound}
use Rattle.cdb_message.proofs.MailFlags.{remove_receive-flag}
use Rattle.cdb_message.proofs.TakenBack.{sound-remove_receive, remove_receive-add_receive}
use Rattle.cdb_message.proofs.mail.Mail.take_back_recv.Goals as goal

pub invariant_of-self : goal.invariant_of-self
invariant_of-self c = subst (IsSound _) (sym (remove_receive-flag c.self.inside
    c.index.result c.index.ensures.value (rw (← c.self.view_is) at c.requires.among) c.index_mut.ensures.value
    c.cell_of_name.result c.cell_of_name.ensures.named c.clear.new.flags c.clear.ensures))
    (sound-remove_receive c.self.inside.passed _ c.self.invariant _ c.args.p c.args.name c.leave_out.ensures)

pub returns-clause-after : goal.returns-clause-after
returns-clause-after c = rw (← c.self.view_is) (remove_receive-flag c.self.inside
    c.index.result c.index.ensures.value (rw (← c.self.view_is) at c.requires.among) c.index_mut.ensures.value
    c.cell_of_name.result c.cell_of_name.ensures.named c.clear.new.flags c.clear.ensures)

pub returns-clause-undoes : goal.returns-clause-undoes
returns-clause-undoes c = λ mail fresh was.
    returns-clause-after c ∙ rw was (remove_receive-add_receive mail c.args.p c.args.name fresh)
