use Rattle.std.proofs.Common.{refl, inl, inr}
use Rattle.std.proofs.lemmas.Result.{err_from_is_err_and}
use Rattle.std.specs.Prelude.{Option}
use Rattle.cdb_program.specs.Beginnings.{made_names, named, read_names}
use Rattle.cdb_program.specs.Keepings.{IsNewKeeping, Keeping}
use Rattle.cdb_program.specs.Sessions.{DebugsIn}
use Rattle.cdb_program.proofs.Keepings.{shown_by, still_alone}
use Rattle.cdb_program.proofs.OpenedFiles.{fails_before, fails_later, opened_then}
use Rattle.cdb_program.proofs.debugs.debug_here.Goals as goal

pub returns-in_err-json-clause-does : goal.returns-in_err-json-clause-does
returns-in_err-json-clause-does g c =
    let p = err_from_is_err_and c.from_residual.result c.from_residual.ensures.1 in
    let it = named c.args.names in
    rw (p.1, p.2, ← c.world.view_is)
    (inl ((fails_before _ _ (read_names it) (made_names it) c.in_err-json.field-0.0 c.in_err-json.ensures, refl), (refl, refl)))

pub returns-in_err-keeping-clause-does : goal.returns-in_err-keeping-clause-does
returns-in_err-keeping-clause-does g c =
    let p = err_from_is_err_and c.from_residual-in_err-keeping.result c.from_residual-in_err-keeping.ensures.1 in
    let it = named c.args.names in
    let fails = fails_later _ _ _ (read_names it) (made_names it) c.in_err-keeping.field-0.0 c.in_ok-json.ensures.0 c.in_err-keeping.ensures in
    rw (p.1, p.2, ← c.world.view_is) (inl ((fails, refl), (refl, refl)))

pub returns-clause-does : goal.returns-clause-does
returns-clause-does g c =
    let it = named c.args.names in
    let json = c.in_ok-json.json.items in
    let from = c.in_ok-json.from.items in
    let first : Option Keeping = c.in_ok-keeping.keeping in
    let made : IsNewKeeping it json from first = rw (← c.as_slice-json.ensures.value, ← c.as_slice-from.ensures.value) c.in_ok-keeping.ensures.1 in
    let session : DebugsIn c.args.prompt.now json from first _ _ c.hold-debugged.result.0 c.hold-debugged.result.1 =
    rw (← c.as_bytes.ensures.value, ← c.as_slice-json.ensures.value, ← c.as_slice-from.ensures.value) c.hold-debugged.ensures in
    rw (← c.world.view_is)
    (inr (
      json,
      from,
      (opened_then _ _ _ (read_names it) (made_names it) c.in_ok-json.ensures.0 c.in_ok-keeping.ensures.0, c.in_ok-json.ensures.1),
      record {
        first = first;
        made = made;
        debugged = c.hold-debugged.result.0;
        kept = c.hold-debugged.result.1;
        session = session;
        shown = c.shown_in.result;
        page = shown_by it.page it.journal json from first _ _ made c.shown_in.ensures (still_alone _ json from first _ _ _ _ session);
        ends = rw (← c.outcome_of.ensures) c.of_session.ensures;
      },
    ))
