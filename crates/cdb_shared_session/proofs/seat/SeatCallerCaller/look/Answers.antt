use Rattle.std.proofs.Common.{inl, inr, [], refl, sym, subst, ◌∙◌}
use Rattle.cdb_journal.specs.OpenedFrom.{opened_from}
use Rattle.cdb_shared_session.specs.Replicas.{HasReplica}
use Rattle.cdb_shared_session.proofs.Replicas.{is_replica}
use Rattle.cdb_shared_session.proofs.SeatCalls.{none_made}
use Rattle.cdb_shared_session.proofs.seat.SeatCallerCaller.look.Goals as goal

pub news_for-requires-clause-replica : goal.news_for-requires-clause-replica
news_for-requires-clause-replica g c =
    let seat = c.self.inside.seat in
    let was = c.self.invariant in
    elim c.in_ok-replica.ensures.which [
      | inl had ↦ subst (HasReplica seat) (sym c.take.ensures.value ∙ had) was.5
      | inr new ↦ is_replica seat c.in_ok-replica.replica [] (new ∙ (λ i. opened_from (was.1 i) (was.2 i) [])) (seat.seen, refl)
    ]

pub returns-in_err-replica-2-clause-look : goal.returns-in_err-replica-2-clause-look
returns-in_err-replica-2-clause-look g c =
    let so = c.news_for.ensures in
    rw (← c.self.view_is) (none_made g.R.Runs.rules _ _ so.seat so.limit so.calls)

pub returns-clause-look : goal.returns-clause-look
returns-clause-look g c =
    let so = c.news_for.ensures in
    rw (← c.self.view_is) (none_made g.R.Runs.rules _ _ so.seat so.limit so.calls)
