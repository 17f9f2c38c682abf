use Rattle.std.proofs.Common.{◌≡◌, sym, rules, tests}
use Rattle.std.specs.List.{position_or_len}
use Rattle.std.proofs.lemmas.List.{take_rest}
use Rattle.std.proofs.lemmas.List.Splits.{slice_split_first, slice_split_none}
use Rattle.std.proofs.lemmas.List.Sums.{position_or_len_is}
use Rattle.cdb_session.specs.Typed.{is_blank}
use Rattle.cdb_session.proofs.typed.first_piece.Goals as goal

pub returns-in-Some-clause-pieces : goal.returns-in-Some-clause-pieces
returns-in-Some-clause-pieces c =
    let line = c.args.line.now in
    let first : position_or_len is_blank line ≡ c.in-Some.end = search (rules, tests, position_or_len_is) in
    rw (take_rest, sym first) (slice_split_first is_blank line 0 (search (rules, tests)))

pub returns-in-None-clause-pieces : goal.returns-in-None-clause-pieces
returns-in-None-clause-pieces c = slice_split_none is_blank c.args.line.now (search (rules, tests))
