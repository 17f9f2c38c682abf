use Rattle.std.proofs.Common.{◌≡◌, ◌-◌, ◌+◌, ◌∙◌, arith}
use Rattle.cdb_causal.specs.Rollback.{without}
use Rattle.cdb_search.proofs.Spared.{all_tried, few_left, needed, none_tried, spared}
use Rattle.cdb_search.proofs.sparing.pass.Goals as goal

pub loop-i-init : goal.loop-i-init
loop-i-init g c = none_tried _ _ _ _ _ c.in_ok-lines.ensures.items c.requires.holds

pub holds_after-requires : goal.holds_after-requires
holds_after-requires g c =
    let i = c.loop-i.i in
    let same : i - 1 + 1 ≡ i = omega arith in
    let fewer : c.in_ok-fewer.fewer.items ≡ without c.loop-i.lines.items i = rw (c.as_slice.ensures.value, same) at c.in_ok-fewer.ensures in
    let few = few_left _ _ _ _ i _ (omega arith) c.loop-i.invariant in
    rw (c.as_slice-in-loop-i.ensures.value, fewer) (omega (arith, few, c.requires.few))

pub loop-i-preserved-then-branch : goal.loop-i-preserved-then-branch
loop-i-preserved-then-branch g c =
    let i = c.loop-i.i in
    let same : i - 1 + 1 ≡ i = omega arith in
    let fewer : c.in_ok-fewer.fewer.items ≡ without c.loop-i.lines.items i = rw (c.as_slice.ensures.value, same) at c.in_ok-fewer.ensures in
    let holds = c.in_ok-holds_after.ensures.0 c.if-branch.true in
    rw fewer (spared _ _ _ _ i _ (omega arith) c.loop-i.invariant (rw (c.as_slice-in-loop-i.ensures.value, fewer) at holds))

pub loop-i-preserved : goal.loop-i-preserved
loop-i-preserved g c =
    let i = c.loop-i.i in
    let same : i - 1 + 1 ≡ i = omega arith in
    let fewer : c.as_slice-in-loop-i.result.now ≡ without c.loop-i.lines.items i =
    c.as_slice-in-loop-i.ensures.value ∙ (rw (c.as_slice.ensures.value, same) at c.in_ok-fewer.ensures) in
    needed _ _ _ _ i _ (omega arith) c.loop-i.invariant
    (λ holds. let yes = c.in_ok-holds_after.ensures.1 (rw fewer holds) in let no = c.if-branch.false in cc)

pub returns : goal.returns
returns g c = all_tried _ _ _ _ c.loop-i.i _ (omega arith) c.loop-i.invariant
