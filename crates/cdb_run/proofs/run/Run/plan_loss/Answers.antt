use Rattle.cdb_run.proofs.Views.{loss_next}
use Rattle.cdb_run.proofs.run.Run.plan_loss.Goals as goal

pub returns-clause-enabled : goal.returns-clause-enabled
returns-clause-enabled g c =
    rw (c.plan_loss.ensures, c.setup.ensures, c.mail.ensures.mail)
    (loss_next g.P.Process.table c.args.self.now c.proper.ensures c.args.s c.args.m c.args.p)
