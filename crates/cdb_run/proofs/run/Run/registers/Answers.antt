use Rattle.std.proofs.Common.{ap}
use Rattle.cdb_run.specs.Current.{Held}
use Rattle.cdb_run.proofs.Views.{shown}
use Rattle.cdb_run.proofs.run.Run.registers.Goals as goal

pub returns : goal.returns
returns g c = ap (λ (h : Held _). h.registers) (shown g.P.Process.table c.self.invariant c.self.view_is)
