use Rattle.std.proofs.Common.{ap}
use Rattle.cdb_base.specs.declared.event.Event.TheVariants.{Lost}
use Rattle.cdb_base.specs.declared.name.StepId.TheVariants as named
use Rattle.cdb_standing.specs.Recorded.{nothing, recorded_of}
use Rattle.cdb_run.specs.Current.{held_in}
use Rattle.cdb_run.proofs.Records.{taken_out}
use Rattle.cdb_run.proofs.Steps.{lost_now, loss_undone}
use Rattle.cdb_run.proofs.run.Run.restore_loss.Goals as goal

pub take_loss-requires : goal.take_loss-requires
take_loss-requires g c = rw (← c.self.view_is) at c.requires

pub take_back_lose-requires : goal.take_back_lose-requires
take_back_lose-requires g c =
    record { lost = lost_now g.P.Process.table c.n-ranges.ensures.ranges c.self.invariant c.self.view_is c.requires c.args.copy.now c.take_loss.ensures }

pub invariant_of-self : goal.invariant_of-self
invariant_of-self g c =
    loss_undone g.P.Process.table c.n-ranges.ensures.ranges c.self.invariant c.self.view_is c.requires c.args.copy.now c.take_loss.ensures
    (ap (λ mail. record (held_in c.self.inside.state) { mail = mail }) c.take_back_lose.ensures.after)

pub returns-clause-event : goal.returns-clause-event
returns-clause-event g c =
    rw (← c.self.view_is)
    (taken_out c.self.inside.records c.take_loss.new.self (named.Lost c.args.copy.now) (recorded_of (Lost c.args.copy.now) nothing) c.take_loss.ensures)
