use Rattle.std.proofs.Common.{◌∙◌, sym, subst}
use Rattle.std.proofs.lemmas.Result.{err_from_is_err_and}
use Rattle.cdb_message.specs.Passed.{IsSound}
use Rattle.cdb_message.proofs.MailFlags.{received_kept, add_receive-flag}
use Rattle.cdb_message.proofs.TakenBack.{sound-add_receive}
use Rattle.cdb_message.proofs.mail.Mail.recv.Goals as goal

pub invariant_of-self : goal.invariant_of-self
invariant_of-self c = subst (IsSound c.self.inside.passed) (sym (received_kept c.self.inside
    c.index.result c.index.ensures.value (rw (← c.self.view_is) at c.requires.among) c.index_mut.ensures.value
    c.set.new.flags c.in_err-set.ensures.err)) c.self.invariant

pub returns-in_err-set-clause-err : goal.returns-in_err-set-clause-err
returns-in_err-set-clause-err c =
    let p = err_from_is_err_and c.from_residual.result c.from_residual.ensures.1 in
    rw (← c.self.view_is, p.1) (received_kept c.self.inside
    c.index.result c.index.ensures.value (rw (← c.self.view_is) at c.requires.among) c.index_mut.ensures.value
    c.set.new.flags c.in_err-set.ensures.err)

pub invariant_of-self-2 : goal.invariant_of-self-2
invariant_of-self-2 c = subst (IsSound c.self.inside.passed) (sym (add_receive-flag c.self.inside
    c.index.result c.index.ensures.value (rw (← c.self.view_is) at c.requires.among) c.index_mut.ensures.value
    c.cell_of_name.result c.cell_of_name.ensures.named c.set.new.flags c.in_ok-set.ensures.ok))
    (sound-add_receive c.self.inside.passed _ c.self.invariant c.args.p c.args.name)

pub returns-clause-ok : goal.returns-clause-ok
returns-clause-ok c = c.pass_over.ensures ∙ rw (← c.self.view_is) (add_receive-flag c.self.inside
    c.index.result c.index.ensures.value (rw (← c.self.view_is) at c.requires.among) c.index_mut.ensures.value
    c.cell_of_name.result c.cell_of_name.ensures.named c.set.new.flags c.in_ok-set.ensures.ok)
