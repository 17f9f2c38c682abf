use Rattle.cdb_search.proofs.walks.walk.Goals as goal

pub returns-then-holds-2 : goal.returns-then-holds-2
returns-then-holds-2 g c = (c.loop.invariant, c.holds-2.ensures.0 c.if-holds-2.true)
