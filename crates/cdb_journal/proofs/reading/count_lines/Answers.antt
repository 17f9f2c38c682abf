use Rattle.std.proofs.Common.{◌≡◌, length, arith, rules, tests}
use Rattle.cdb_journal.proofs.Read.{no_lines_left}
use Rattle.cdb_journal.proofs.reading.count_lines.Goals as goal

pub returns : goal.returns
returns c =
    let none : length c.loop-rest.rest.now ≡ 0 = search (rules, tests) in
    omega (arith, c.loop-rest.invariant.counted, no_lines_left c.loop-rest.rest.now none)
