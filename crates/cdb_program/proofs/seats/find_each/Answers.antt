use Rattle.std.proofs.Common.{◌≡◌, ◌+◌, ◌++◌, ◌∷◌, [], arith, rules, take, drop}
use Rattle.std.proofs.lemmas.List.{take_all}
use Rattle.std.proofs.lemmas.Result.{err_from_is_err_and}
use Rattle.cdb_base.specs.Requests.{texts}
use Rattle.cdb_program.proofs.OpenedFiles.{fails_at, opened_at, read_none, taken_and_left}
use Rattle.cdb_program.proofs.Seated.{seat_openers}
use Rattle.cdb_program.proofs.seats.find_each.Goals as goal

pub loop-name-init : goal.loop-name-init
loop-name-init g c = record { opened = (read_none _).0; seats = rw c.new-openers.ensures.items tt; count = omega (arith, c.new-openers.ensures.len) }

pub returns-in_err-opener-clause-found : goal.returns-in_err-opener-clause-found
returns-in_err-opener-clause-found g c =
    let p = err_from_is_err_and c.from_residual.result c.from_residual.ensures.1 in
    rw (p.1, p.2) (fails_at _ _ _ c.args.names.now c.loop-name.name-index _ c.in_err-opener.field-0.0
    c.loop-name-test.true c.loop-name.invariant.opened c.in_err-opener.ensures)

pub returns-in-Err-clause-found : goal.returns-in-Err-clause-found
returns-in-Err-clause-found g c =
    let names = c.args.names.now in
    let i = c.loop-name.name-index in (
      texts (take (i + 1) names),
      texts (drop (i + 1) names),
      taken_and_left names (i + 1),
      opened_at _ _ _ names i _ c.loop-name-test.true c.loop-name.invariant.opened c.in_ok-opener.ensures.0,
    )

pub loop-name-preserved : goal.loop-name-preserved
loop-name-preserved g c = record {
  opened = opened_at _ _ _ c.args.names.now c.loop-name.name-index _ c.loop-name-test.true c.loop-name.invariant.opened c.in_ok-opener.ensures.0;
  seats =
      let items : c.push.new.self.items ≡ c.loop-name.openers.items ++ c.in_ok-opener.opener ∷ [] = search rules in
      rw items (seat_openers g.F.Seat.Opener.opens _ _ c.args.names.now c.loop-name.name-index _ c.loop-name.openers.items
      c.in_ok-opener.opener c.loop-name-test.true c.loop-name.invariant.opened c.loop-name.invariant.seats c.in_ok-opener.ensures.1);
  count = let more = c.push.ensures.len in grind (arith, more, c.loop-name.invariant.count);
}

pub returns-clause-found : goal.returns-clause-found
returns-clause-found g c =
    let all = take_all c.loop-name.name-index c.args.names.now c.loop-name-test.false in
    (rw all at c.loop-name.invariant.opened, rw all at c.loop-name.invariant.seats)
