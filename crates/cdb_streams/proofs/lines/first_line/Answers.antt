use Rattle.std.proofs.Common.{◌≡◌, sym, rules, tests}
use Rattle.std.specs.List.{position_or_len}
use Rattle.std.proofs.lemmas.List.{take_rest}
use Rattle.std.proofs.lemmas.List.Sums.{position_or_len_is}
use Rattle.cdb_streams.proofs.CutLines.{is_newline, no_lines, cut_none, cut_first}
use Rattle.cdb_streams.proofs.lines.first_line.Goals as goal

pub returns-in-Some-position-clause-lines : goal.returns-in-Some-position-clause-lines
returns-in-Some-position-clause-lines c =
    let script = c.args.script.now in
    let first : position_or_len is_newline script ≡ c.in-Some-position.end = search (rules, tests, position_or_len_is) in
    rw (take_rest, sym first) (cut_first script (search (rules, tests)))

pub returns-in-None-clause-lines : goal.returns-in-None-clause-lines
returns-in-None-clause-lines c = rw no_lines (cut_none c.args.script.now c.requires (search (rules, tests)))
