use borrow.Author.Count.{below_more}
use Rattle.std.proofs.lemmas.Bool.{iff_false}
use Rattle.cdb_causal.proofs.links.is_direct_cause.Goals as goal

pub loop-k-preserved : goal.loop-k-preserved
loop-k-preserved c =
    below_more _ c.loop-k.k c.loop-k.invariant (λ one two. iff_false c.is_between.ensures c.if-is_between.false (one, two))
