use Rattle.cdb_base.specs.declared.event.Event.TheVariants.{Step}
use Rattle.cdb_rules.specs.Runs.{step_name}
use Rattle.cdb_standing.specs.Recorded.{recorded_of}
use Rattle.cdb_run.proofs.Records.{taken_out}
use Rattle.cdb_run.proofs.Steps.{was_held, step_undone}
use Rattle.cdb_run.proofs.run.Run.restore_step.Goals as goal

pub take_step-kind-requires : goal.take_step-kind-requires
take_step-kind-requires g c = rw (← c.self.view_is) at c.requires

pub take_back-requires : goal.take_back-requires
take_back-requires g c =
    let taken = c.take_step-kind.result in
    was_held g.P.Process.table c.n-ranges.ensures.ranges c.self.invariant c.self.view_is c.requires c.args.p c.args.k taken.0 taken.1
    c.take_step-kind.ensures

pub invariant_of-self : goal.invariant_of-self
invariant_of-self g c =
    let taken = c.take_step-kind.result in
    let was =
    was_held g.P.Process.table c.n-ranges.ensures.ranges c.self.invariant c.self.view_is c.requires c.args.p c.args.k taken.0 taken.1
    c.take_step-kind.ensures in
    step_undone g.P.Process.table c.n-ranges.ensures.ranges c.self.invariant c.self.view_is c.requires c.args.p c.args.k taken.0 taken.1
    c.take_step-kind.ensures (c.take_back.ensures was.0 was.1)

pub returns-clause-event : goal.returns-clause-event
returns-clause-event g c =
    let taken = c.take_step-kind.result in
    rw (← c.self.view_is)
    (taken_out c.self.inside.records c.take_step-kind.new.self (step_name c.args.p c.args.k) (recorded_of (Step c.args.p c.args.k taken.0) taken.1)
    c.take_step-kind.ensures)
