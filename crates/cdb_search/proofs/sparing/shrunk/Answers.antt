use Rattle.std.proofs.Common.{◌≡◌, length, arith}
use Rattle.cdb_search.proofs.Spared.{all_spared, more_spared, none_spared}
use Rattle.cdb_search.proofs.sparing.shrunk.Goals as goal

pub loop-init : goal.loop-init
loop-init g c = none_spared _ _ _ _ _ c.in_ok-lines.ensures.items c.requires.holds

pub pass-requires-clause-holds : goal.pass-requires-clause-holds
pass-requires-clause-holds g c = rw c.as_slice.ensures.value c.loop.invariant.holds

pub returns-then-len : goal.returns-then-len
returns-then-len g c =
    let same : length c.in_ok-fewer.fewer.items ≡ length c.loop.lines.items = omega (arith, c.len.ensures, c.len-in-loop.ensures, c.if-len.true) in
    all_spared _ _ _ _ _ _ _ c.loop.invariant (rw c.as_slice.ensures.value at c.in_ok-fewer.ensures) same

pub loop-preserved : goal.loop-preserved
loop-preserved g c =
    more_spared _ _ _ _ _ _ _ c.loop.invariant (rw c.as_slice.ensures.value at c.in_ok-fewer.ensures)
    (λ same. absurd (c.if-len.false (omega (arith, c.len.ensures, c.len-in-loop.ensures, same))))
