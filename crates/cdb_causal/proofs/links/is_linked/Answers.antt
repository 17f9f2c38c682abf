use Rattle.std.proofs.Common.{arith}
use Rattle.cdb_causal.proofs.Walks.{item_one, link_decided}
use Rattle.cdb_causal.proofs.links.is_linked.Goals as goal

pub returns-then-i-j : goal.returns-then-i-j
returns-then-i-j c =
    let events = c.args.events.now in
    let cause = item_one events c.args.i c.index-events-i.result c.requires.from_one (omega arith) c.index-events-i.is in
    let effect = item_one events c.args.j c.index-events-j.result (omega arith) c.requires.to_len c.index-events-j.is in
    rw c.depends.ensures (link_decided events c.args.i c.args.j c.index-events-i.result c.index-events-j.result c.if-i-j.true cause effect)
