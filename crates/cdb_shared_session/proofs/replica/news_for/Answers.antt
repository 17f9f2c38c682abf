use Rattle.std.proofs.Common.{◌≡◌, ◌+◌, ◌++◌, length, ap, ◌∙◌, arith}
use Rattle.cdb_control.proofs.Own.{Begins-refl}
use Rattle.cdb_journal.specs.SeatReplies.{news_in}
use Rattle.cdb_shared_session.proofs.Replicas.{caught_up, few_left, is_replica, news_seen, replica_later}
use Rattle.cdb_shared_session.proofs.replica.news_for.Goals as goal

pub returns-clause-replica : goal.returns-clause-replica
returns-clause-replica g c =
    let seat = c.journal.new.seat in
    let replica = c.args.replica in
    let so = replica_later c.args.seat.now seat replica c.journal.ensures.seat c.requires.replica in
    let rest = c.as_slice.ensures.value ∙ (rw c.journal-known.ensures.entries at c.in-Ok.ensures.entries) in
    is_replica seat c.in_ok-replica.replica seat.seen
    (caught_up seat replica so _ (c.in_ok-replica.ensures.control ∙ (λ i. record replica { journal = replica.journal ++ rest i }))) (Begins-refl seat.seen)

pub returns-clause-news : goal.returns-clause-news
returns-clause-news g c =
    let seat = c.journal.new.seat in
    let replica = c.args.replica in
    let so = replica_later c.args.seat.now seat replica c.journal.ensures.seat c.requires.replica in
    let beyond = rw c.journal-known.ensures.entries at c.in-Ok.ensures.entries in
    let rest = c.as_slice.ensures.value ∙ beyond in
    let all : length c.journal-known.result.now + c.len.result ≡ length seat.seen =
    omega (arith, ap length c.journal-known.ensures.entries, c.len.ensures ∙ c.in-Ok.entries.ok.0 ∙ ap length beyond, few_left seat replica so) in
    let whole = caught_up seat replica so _ (c.in_ok-replica.ensures.control ∙ (λ i. record replica { journal = replica.journal ++ rest i })) in
    c.in_ok-replica.ensures.news ∙ (λ i. news_in g.R.Runs.rules (whole i) (c.number.ensures.number i) c.unwrap_or-first.result)
    ∙ news_seen g.R.Runs.rules seat c.args.from c.unwrap_or-first.result _ c.unwrap_or-first.ensures all
