use Rattle.std.proofs.Common.{◌≡◌, ◌+◌, length, ap, arith}
use Rattle.cdb_trail.proofs.ReadsPlayed.{the_trail, value_of}
use Rattle.cdb_trail.proofs.trail.trail_by.Goals as goal

pub walk_back-requires-clause-has_trail : goal.walk_back-requires-clause-has_trail
walk_back-requires-clause-has_trail g c =
    let value = value_of g.P.Process.table g.P.Flowing.flows c.args.run.now (rw c.in-Some.is at c.taken_by.ensures) in
    let has = c.requires.has_trails _ c.requires.valid _ _ value in
    (has.0, has.1, has.2.is_trail)

pub returns-in-Some : goal.returns-in-Some
returns-in-Some g c =
    let number = c.in_ok-before.ensures.number in
    let same = ap length c.as_slice-flows.ensures.value in
    let there : length c.as_slice-flows.result.now + 1 ≡ c.args.position = omega arith in
    let value = value_of g.P.Process.table g.P.Flowing.flows c.args.run.now (rw c.in-Some.is at c.taken_by.ensures) in
    let has = c.requires.has_trails _ c.requires.valid _ _ value in
    let found = c.in_ok-proposer-in-Some.ensures in
    (found.0, rw there at (the_trail c.requires.no_others has.2 found.1), found.2)

pub returns : goal.returns
returns g c =
    let number = c.in_ok-before.ensures.number in
    let same = ap length c.as_slice-flows.ensures.value in
    let there : length c.as_slice-flows.result.now + 1 ≡ c.args.position = omega arith in
    rw there at (rw c.in-None.is at c.taken_by.ensures)
