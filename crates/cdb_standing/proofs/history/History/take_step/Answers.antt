use Rattle.cdb_base.specs.declared.event.Event.TheVariants.{Step}
use Rattle.cdb_base.specs.declared.name.StepId.TheVariants as named
use Rattle.std.proofs.Common.{arith}
use Rattle.cdb_standing.proofs.Held.{one_event_less, is_last, take_kept, take_history, was_last, last_left}
use Rattle.cdb_standing.proofs.history.History.take_step.Goals as goal

pub take_step-entry-requires-clause-some : goal.take_step-entry-requires-clause-some
take_step-entry-requires-clause-some c = let last = is_last c.self.invariant.kept c.args.k (rw (← c.self.view_is) at c.requires) in omega arith

pub invariant_of-self : goal.invariant_of-self
invariant_of-self c =
    let step = c.take_step-entry.ensures in
    let kept = c.self.invariant.kept in
    let free = rw (← c.self.view_is) at c.requires in
    one_event_less c.self.invariant (named.Step (record { p = c.args.p; k = c.args.k })) (Step c.args.p c.args.k c.take_step-entry.result.kind)
    (take_kept kept c.args.k free step.taken step.registers step.process) free.0 free.1 (take_history kept c.args.k free step.taken)

pub returns : goal.returns
returns c =
    let step = c.take_step-entry.ensures in
    let kept = c.self.invariant.kept in
    let free = rw (← c.self.view_is) at c.requires in
    record {
      taken = rw (← c.self.view_is) (take_history kept c.args.k free step.taken);
      was_last = rw (← c.self.view_is) (was_last kept c.args.k free step.taken);
      last = last_left kept c.args.k free step.taken (take_kept kept c.args.k free step.taken step.registers step.process);
    }
