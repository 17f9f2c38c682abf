use Rattle.std.proofs.Common.{◌≡◌, length, arith}
use Rattle.cdb_causal.proofs.Walks.{false_only}
use Rattle.cdb_page.proofs.ListItems.{none_found, found_in, found_out}
use Rattle.cdb_page.proofs.links.direct_links.Goals as goal
use Rattle.cdb_page.proofs.links.direct_links.Goals.{then-is_direct_cause+in_ok-push, else-is_direct_cause}
use Rattle.cdb_page.proofs.links.direct_links.Goals.{then-is_direct_cause-2+in_ok-push-2, else-is_direct_cause-2}

pub loop-i-init : goal.loop-i-init
loop-i-init c = record { causes = rw c.new-causes.ensures.items (none_found _); dependents = rw c.new-dependents.ensures.items (none_found _) }

pub loop-i-preserved : goal.loop-i-preserved
loop-i-preserved c =
    let so = c.loop-i.invariant in
    let cause = c.is_direct_cause.ensures in
    let effect = c.is_direct_cause-in-loop-i.ensures in
    record {
      causes =
          elim c.if-is_direct_cause.branch [
            | then-is_direct_cause+in_ok-push w ↦ rw (w.causes-is, w.in_ok-push.ensures.items) (found_in so.causes (cause.0 w.if-is_direct_cause.true))
            | else-is_direct_cause w ↦ rw w.causes-is (found_out so.causes (λ is. false_only (cause.1 is) w.if-is_direct_cause.false))
          ];
      dependents =
          elim c.if-is_direct_cause-2.branch [
            | then-is_direct_cause-2+in_ok-push-2 w ↦
                rw (w.dependents-is, w.in_ok-push-2.ensures.items) (found_in so.dependents (effect.0 w.if-is_direct_cause-2.true))
            | else-is_direct_cause-2 w ↦ rw w.dependents-is (found_out so.dependents (λ is. false_only (effect.1 is) w.if-is_direct_cause-2.false))
          ];
    }

pub returns : goal.returns
returns c =
    let end : c.loop-i.i ≡ length c.args.events.now = omega arith in
    let all = c.loop-i.invariant in
    record { causes = rw end at all.causes; dependents = rw end at all.dependents }
