use Rattle.std.proofs.Common.{◌≡◌, ◌+◌, suc, refl, sym, true≢false, below_more, arith}
use Rattle.cdb_standing.proofs.Numbered.{all_messages}
use Rattle.cdb_standing.proofs.compare.lose_same.Goals as goal

pub loop-j-preserved : goal.loop-j-preserved
loop-j-preserved c = let one : suc c.loop-j.j ≡ c.loop-j.j + 1 = omega arith in
    below_more _ _ c.loop-j.invariant (rw one (c.if-not-lose_same_copies.ensures.0 refl))

pub returns-then-not-lose_same_copies : goal.returns-then-not-lose_same_copies
returns-then-not-lose_same_copies c =
    ((λ yes. absurd (true≢false (sym yes))), (λ same. c.if-not-lose_same_copies.ensures.1 (same.each (c.loop-j.j + 1))))

pub returns : goal.returns
returns c = (
  (λ yes. record { each = all_messages c.args.row.now c.args.other.now c.loop-j.j (omega arith) (omega arith) c.loop-j.invariant }),
  (λ same. refl),
)
