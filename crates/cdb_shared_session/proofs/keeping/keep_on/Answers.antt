use Rattle.std.proofs.Common.{Ok}
use Rattle.cdb_shared.proofs.Steps.{IsLater-trans}
use Rattle.cdb_shared_session.proofs.KeptEntries.{keeps_then}
use Rattle.cdb_shared_session.proofs.keeping.keep_on.Goals as goal

pub returns-then-have_ended-clause-kept : goal.returns-then-have_ended-clause-kept
returns-then-have_ended-clause-kept g c =
    keeps_then g.J.Sink.stream _ _ _ c.args.first c.loop.count (Ok c.in_ok-count.count) _
    _ c.loop.invariant.kept c.in_ok-count.ensures.later.begins c.in_ok-count.ensures.kept

pub loop-preserved : goal.loop-preserved
loop-preserved g c = record {
  later = IsLater-trans _ _ _ c.loop.invariant.later c.in_ok-count.ensures.later;
  kept =
      keeps_then g.J.Sink.stream _ _ _ c.args.first c.loop.count (Ok c.in_ok-count.count) _
      _ c.loop.invariant.kept c.in_ok-count.ensures.later.begins c.in_ok-count.ensures.kept;
}
