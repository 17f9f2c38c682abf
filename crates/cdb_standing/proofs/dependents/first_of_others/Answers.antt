use Rattle.cdb_standing.proofs.LinksFound.{one_process_more}
use Rattle.cdb_standing.proofs.dependents.first_of_others.Goals as goal

pub loop-i-preserved : goal.loop-i-preserved
loop-i-preserved c =
    rw c.earlier-first.ensures
    (one_process_more c.requires.kept.sound c.args.p c.args.k c.args.entry.now.mark c.args.entry.now.kind c.requires.at c.loop-i.i c.loop-i.first
    c.of_others.result c.loop-i.invariant (rw c.new.ensures.value at c.of_others.ensures))
