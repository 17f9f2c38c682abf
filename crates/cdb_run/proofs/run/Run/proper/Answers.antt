use Rattle.cdb_run.proofs.Views.{history_valid}
use Rattle.cdb_run.proofs.run.Run.proper.Goals as goal

pub returns : goal.returns
returns g c =
    record {
      lawful = g.met.P.Process.lawful;
      ranges = rw (← c.self.view_is) c.n-ranges.ensures.ranges;
      in_order = history_valid g.P.Process.table c.self.invariant c.self.view_is;
    }
