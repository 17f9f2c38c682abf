use Rattle.std.proofs.Common.{arith}
use Rattle.cdb_page.proofs.ListItems.{first_link, link_within}
use Rattle.cdb_page.proofs.links.needed_by.Goals as goal

pub returns-then-is_linked : goal.returns-then-is_linked
returns-then-is_linked c = (c.is_linked.ensures.0 c.if-is_linked.true, first_link c.args.events.now c.args.at c.loop-i.i c.loop-i.invariant)

pub returns : goal.returns
returns c = λ j link. c.loop-i.invariant j (let within = link_within c.args.events.now c.args.at j link in omega (arith, within)) link
