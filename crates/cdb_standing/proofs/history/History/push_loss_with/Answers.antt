use Rattle.std.proofs.Common.{inr, refl, arith}
use Rattle.std.proofs.lemmas.Result.{err_from_is_err_and}
use Rattle.cdb_base.specs.declared.event.Event.TheVariants.{Lost}
use Rattle.cdb_standing.proofs.Held.{few, one_event_more, may_lose, lose_kept, lose_history}
use Rattle.cdb_standing.proofs.history.History.push_loss_with.Goals as goal

pub add_loss-requires-clause-sent : goal.add_loss-requires-clause-sent
add_loss-requires-clause-sent g c =
    may_lose c.self.invariant.kept c.args.copy (omega arith) (omega arith) (rw (← c.self.view_is) at c.requires.pending)

pub invariant_of-self : goal.invariant_of-self
invariant_of-self g c =
    let pending = rw (← c.self.view_is) at c.requires.pending in
    let kept = c.self.invariant.kept in
    let lost = c.add_loss.ensures in
    one_event_more c.self.invariant (Lost c.args.copy)
    (lose_kept kept c.args.copy (omega arith) (omega arith) pending lost) (lose_history kept c.args.copy (omega arith) (omega arith) pending lost)

pub returns-clause-added : goal.returns-clause-added
returns-clause-added g c =
    rw (← c.self.view_is)
    (lose_history c.self.invariant.kept c.args.copy (omega arith) (omega arith) (rw (← c.self.view_is) at c.requires.pending) c.add_loss.ensures)

pub returns-in_err-left-clause-failed : goal.returns-in_err-left-clause-failed
returns-in_err-left-clause-failed g c =
    let p = err_from_is_err_and c.from_residual-in_err-left.result c.from_residual-in_err-left.ensures.1 in
    rw p.1 (inr (record { shown = _; shows = refl; left = _; met = c.in_err-left.ensures; leaves = refl }))

pub overflow_add-self : goal.overflow_add-self
overflow_add-self g c = let few = few c.self.invariant in omega (arith, few)
