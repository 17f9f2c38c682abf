use Rattle.std.proofs.Common.{arith}
use Rattle.cdb_causal.proofs.Walks.{false_only}
use Rattle.cdb_standing.proofs.DirectCounts.{none_counted, one_counted, other_counted}
use Rattle.cdb_standing.proofs.positions.count_direct.Goals as goal
use Rattle.cdb_standing.proofs.positions.count_direct.Goals.{then-is_direct_cause, else-is_direct_cause}

pub loop-i-init : goal.loop-i-init
loop-i-init c = record { counted = none_counted c.args.events.now c.args.at; few = omega arith }

pub loop-i-preserved : goal.loop-i-preserved
loop-i-preserved c =
    let events = c.args.events.now in
    let so_far = c.loop-i.invariant.counted in
    elim c.if-is_direct_cause.branch [
      | then-is_direct_cause w ↦ record {
        counted =
            rw w.count-is (one_counted events c.args.at c.loop-i.i c.loop-i.count (omega arith) so_far (c.is_direct_cause.ensures.0 w.if-is_direct_cause.true));
        few = omega arith;
      }
      | else-is_direct_cause w ↦ record {
        counted =
            rw w.count-is
            (other_counted events c.args.at c.loop-i.i c.loop-i.count (omega arith) so_far
            (λ direct. false_only (c.is_direct_cause.ensures.1 direct) w.if-is_direct_cause.false));
        few = omega arith;
      }
    ]
