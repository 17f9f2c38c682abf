use Rattle.std.proofs.Common.{length, ap, ◌∙◌}
use Rattle.cdb_run.specs.Current.{Held}
use Rattle.cdb_run.proofs.Views.{shown, receivers_shown}
use Rattle.cdb_run.proofs.run.Run.mail.Goals as goal

pub returns-clause-mail : goal.returns-clause-mail
returns-clause-mail g c = ap (λ (h : Held _). h.mail) (shown g.P.Process.table c.self.invariant c.self.view_is)

pub returns-clause-receivers : goal.returns-clause-receivers
returns-clause-receivers g c = ap (λ mail. length mail.received) (returns-clause-mail g c) ∙ receivers_shown g.P.Process.table c.args.self.now c.proper.ensures
