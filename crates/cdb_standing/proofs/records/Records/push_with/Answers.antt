use Rattle.cdb_standing.proofs.Beside.{history_seen, beside_more, step_recorded}
use Rattle.cdb_standing.proofs.records.Records.push_with.Goals as goal

pub push_step_with-requires-clause-next : goal.push_step_with-requires-clause-next
push_step_with-requires-clause-next g c = rw (history_seen _ _ c.self.view_is) c.requires.may.0

pub push_step_with-requires-clause-may : goal.push_step_with-requires-clause-may
push_step_with-requires-clause-may g c = rw (history_seen _ _ c.self.view_is) c.requires.may.1

pub invariant_of-self-2 : goal.invariant_of-self-2
invariant_of-self-2 g c =
    let put = rw (c.index-i.ensures.value, c.reserve_in.ensures.same) at c.put_on.ensures in
    rw c.in_ok-left.ensures.added (beside_more put c.args.k c.args.kind c.self.invariant)

pub returns-clause-ok : goal.returns-clause-ok
returns-clause-ok g c =
    let put = rw (c.index-i.ensures.value, c.reserve_in.ensures.same) at c.put_on.ensures in
    let its = c.steps_of-count.ensures in (
      c.in_ok-left.left,
      c.in_ok-left.ensures.changed,
      rw (← c.self.view_is, c.in_ok-left.ensures.added)
          (step_recorded put c.args.k c.args.kind c.self.invariant its.numbered (rw its.count at its.end)
          (rw (history_seen _ _ c.self.view_is) c.requires.may.0)),
    )
