use Rattle.std.proofs.Common.{◌≡◌, suc, sym, ◌∙◌, arith}
use Rattle.cdb_standing.proofs.AccessLists.{list_rising}
use Rattle.cdb_standing.proofs.Numbered.{none_counted, next_counted, all_counted}
use Rattle.cdb_standing.proofs.compare.writes_before.Goals as goal

pub loop-i-init : goal.loop-i-init
loop-i-init c = record { counted = sym (none_counted c.requires.kept.sound c.args.n c.args.mark); few = omega arith }

pub count_before-count-requires : goal.count_before-count-requires
count_before-count-requires c =
    rw c.list_of.ensures (list_rising c.requires.kept.sound c.requires.kept.writes c.new.result c.args.n (omega arith) (omega arith) c.requires.few)

pub loop-i-preserved : goal.loop-i-preserved
loop-i-preserved c =
    let i = c.loop-i.i in
    let is : c.new.result ≡ suc i = omega arith in
    let more =
    next_counted c.requires.kept.sound c.args.mark i c.count_before-count.result c.requires.kept.writes c.requires.few (omega arith)
    (rw is at (sym c.list_of.ensures)) c.count_before-count.ensures in
    let few = more.0 in
    record { counted = omega arith; few = omega arith }

pub returns : goal.returns
returns c =
    let nine : c.loop-i.i ≡ 9 = omega arith in
    rw nine at c.loop-i.invariant.counted ∙ all_counted c.requires.kept.sound c.args.n c.args.mark
