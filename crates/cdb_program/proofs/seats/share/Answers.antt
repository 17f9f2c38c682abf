use Rattle.std.proofs.Common.{◌≡◌, ℕ, List, ◌++◌, Bor, vec_len, length, refl, ap, arith}
use Rattle.std.specs.Prelude.{Option}
use Rattle.std.proofs.lemmas.List.{length-map}
use Rattle.std.proofs.lemmas.Result.{err_from_is_err_and}
use Rattle.cdb_agreement.specs.Algorithms.{rules}
use Rattle.cdb_base.specs.Requests.{texts}
use Rattle.cdb_program.specs.Answers.{IsAnswer}
use Rattle.cdb_program.specs.Beginnings.{made_names, named, read_names}
use Rattle.cdb_program.specs.Keepings.{IsNewKeeping, Keeping, stream_in}
use Rattle.cdb_program.proofs.Keepings.{shown_by, still_shared}
use Rattle.cdb_program.proofs.OpenedFiles.{fails_before, fails_later, opened_then}
use Rattle.cdb_program.proofs.Seated.{holds_seen, none_after, none_begun, seats_known}
use Rattle.cdb_program.proofs.seats.share.Goals as goal

pub returns-in_err-json-clause-fault : goal.returns-in_err-json-clause-fault
returns-in_err-json-clause-fault g c =
    let p = err_from_is_err_and c.from_residual.result c.from_residual.ensures.1 in
    rw (p.1, p.2, ← c.world.view_is)
    (none_begun (named c.args.names) (texts c.args.seats.now) _ _ c.in_err-json.field-0.0 c.in_err-json.ensures, refl)

pub returns-in_err-openers-clause-fault : goal.returns-in_err-openers-clause-fault
returns-in_err-openers-clause-fault g c =
    let p = err_from_is_err_and c.from_residual-in_err-openers.result c.from_residual-in_err-openers.ensures.1 in
    let why = c.in_err-openers.field-0.0 in
    let it = named c.args.names in
    let seats = texts c.args.seats.now in
    rw (p.1, p.2, ← c.world.view_is)
    (none_after it seats _ _ _ why c.in_ok-json.ensures.0 (fails_before _ _ seats (made_names it) why c.in_err-openers.ensures.found), refl)

pub returns-in_err-keeping-clause-fault : goal.returns-in_err-keeping-clause-fault
returns-in_err-keeping-clause-fault g c =
    let p = err_from_is_err_and c.from_residual-in_err-keeping.result c.from_residual-in_err-keeping.ensures.1 in
    let why = c.in_err-keeping.field-0.0 in
    let it = named c.args.names in
    let seats = texts c.args.seats.now in
    let fails = fails_later _ _ _ seats (made_names it) why c.in_ok-openers.ensures.found.0 c.in_err-keeping.ensures in
    rw (p.1, p.2, ← c.world.view_is) (none_after it seats _ _ _ why c.in_ok-json.ensures.0 fails, refl)

pub returns-in-Ok-clause-sessions : goal.returns-in-Ok-clause-sessions
returns-in-Ok-clause-sessions g c =
    let it = named c.args.names in
    let seats = texts c.args.seats.now in
    let opens = g.F.Seat.Opener.opens in
    let json = c.in_ok-json.json.items in
    let from = c.in_ok-json.from.items in
    let first : Option Keeping = c.in_ok-keeping.keeping in
    let known = seats_known opens _ _ (read_names it) seats c.in_ok-openers.openers.items c.in_ok-json.ensures.0 c.in_ok-openers.ensures.found.1 in
    let opened = opened_then _ _ _ seats (made_names it) c.in_ok-openers.ensures.found.0 c.in_ok-keeping.ensures.0 in
    let made : IsNewKeeping it json from first = rw (← c.as_slice-json.ensures.value, ← c.as_slice-from.ensures.value) c.in_ok-keeping.ensures.1 in
    let held = rw (c.as_slice-json.ensures.value, c.as_slice-from.ensures.value) at c.in-Ok.ensures.sessions in
    rw (← c.world.view_is) (record {
      json = json;
      from = from;
      begun = (opened_then _ _ _ (read_names it) (seats ++ made_names it) c.in_ok-json.ensures.0 opened, c.in_ok-json.ensures.1);
      first = first;
      made = made;
      its_status = c.in-Ok.status;
      kept = c.in-Ok.kept;
      error = g.E.Sink.stream c.debug_shared.new.error;
      sessions =
          holds_seen rules IsAnswer g.F.Seat.Seat.Console.known opens stream_in g.O.Sink.stream g.E.Sink.stream
          (g.F.Files.seen c.world.inside.files) seats known held;
      shown = c.shown_in.result;
      page = shown_by it.page it.journal json from first _ _ made c.shown_in.ensures (still_shared first _ _ held.keeps);
      page_end = c.of_page.result;
      ends = c.of_page.ensures;
      page_status = c.report-shown.result;
      reported = c.report-shown.ensures;
      status_is = c.first_status.ensures;
    })

pub returns-clause-fault : goal.returns-clause-fault
returns-clause-fault g c =
    let it = named c.args.names in
    let seats = texts c.args.seats.now in
    let opened = opened_then _ _ _ seats (made_names it) c.in_ok-openers.ensures.found.0 c.in_ok-keeping.ensures.0 in
    let many : vec_len c.in_ok-openers.openers ≡ length seats =
    omega (arith, c.in_ok-openers.ensures.count, length-map c.args.seats.now (λ (name : Bor (List ℕ)). name.now)) in
    rw (← c.world.view_is) (
      (
        c.in_ok-json.json.items,
        c.in_ok-json.from.items,
        (opened_then _ _ _ (read_names it) (seats ++ made_names it) c.in_ok-json.ensures.0 opened, c.in_ok-json.ensures.1),
        rw (← c.as_slice-json.ensures.value, ← c.as_slice-from.ensures.value, ← many) c.in-Err.ensures.fault,
      ),
      ap g.O.Sink.stream c.in-Err.ensures.unwritten.0,
    )

pub returns-then-seats-from-clause-fault : goal.returns-then-seats-from-clause-fault
returns-then-seats-from-clause-fault g c =
    ((omega (arith, c.from.ensures, c.if-seats-from.true, length-map c.args.seats.now (λ (name : Bor (List ℕ)). name.now)), refl), refl)

pub returns-in-Ok-clause-none : goal.returns-in-Ok-clause-none
returns-in-Ok-clause-none g c = rw (← c.world.view_is) (refl, refl)

pub returns-clause-error : goal.returns-clause-error
returns-clause-error g c = rw (← c.world.view_is) (ap g.E.Sink.stream c.in-Err.ensures.unwritten.1)

pub returns-clause-none : goal.returns-clause-none
returns-clause-none g c = rw (← c.world.view_is) (refl, refl)
