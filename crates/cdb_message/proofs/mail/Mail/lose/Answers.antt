use Rattle.std.proofs.Common.{◌∙◌, sym, subst}
use Rattle.std.proofs.lemmas.Result.{err_from_is_err_and}
use Rattle.cdb_message.specs.Mail.{copy_name}
use Rattle.cdb_message.specs.Passed.{IsSound}
use Rattle.cdb_message.proofs.MailFlags.{lost_kept, add_loss-flag}
use Rattle.cdb_message.proofs.TakenBack.{sound-add_loss}
use Rattle.cdb_message.proofs.mail.Mail.lose.Goals as goal

pub invariant_of-self : goal.invariant_of-self
invariant_of-self c = subst (IsSound c.self.inside.passed) (sym (lost_kept c.self.inside c.set.new.flags.items c.in_err-set.ensures.err)) c.self.invariant

pub returns-in_err-set-clause-err : goal.returns-in_err-set-clause-err
returns-in_err-set-clause-err c =
    let p = err_from_is_err_and c.from_residual.result c.from_residual.ensures.1 in
    rw (← c.self.view_is, p.1) (lost_kept c.self.inside c.set.new.flags.items c.in_err-set.ensures.err)

pub invariant_of-self-2 : goal.invariant_of-self-2
invariant_of-self-2 c = subst (IsSound c.self.inside.passed) (sym (add_loss-flag c.self.inside
    c.cell_of_copy.result c.cell_of_copy.ensures.named c.set.new.flags.items c.in_ok-set.ensures.ok))
    (sound-add_loss c.self.inside.passed _ c.self.invariant (copy_name c.args.name c.args.p))

pub returns-clause-ok : goal.returns-clause-ok
returns-clause-ok c = c.pass_over.ensures ∙ rw (← c.self.view_is) (add_loss-flag c.self.inside
    c.cell_of_copy.result c.cell_of_copy.ensures.named c.set.new.flags.items c.in_ok-set.ensures.ok)
