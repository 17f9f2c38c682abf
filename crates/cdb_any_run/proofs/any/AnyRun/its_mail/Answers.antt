use Rattle.cdb_any_run.proofs.any.AnyRun.its_mail.Goals as goal

pub returns-in-Leader-clause-mail : goal.returns-in-Leader-clause-mail
returns-in-Leader-clause-mail c =
    let named = rw c.in-Leader.is at c.self.invariant in rw (← c.self.view_is, c.in-Leader.is, named) (rw named at c.mail.ensures.mail)

pub returns-in-Alpha-clause-mail : goal.returns-in-Alpha-clause-mail
returns-in-Alpha-clause-mail c =
    let named = rw c.in-Alpha.is at c.self.invariant in rw (← c.self.view_is, c.in-Alpha.is, named) (rw named at c.mail-in-Alpha.ensures.mail)
