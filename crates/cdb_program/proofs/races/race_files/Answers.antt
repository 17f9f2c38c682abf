use Rattle.std.proofs.Common.{refl, inl, inr, ◌∷◌, []}
use Rattle.std.proofs.lemmas.Result.{err_from_is_err_and}
use Rattle.cdb_play.specs.Races.{bytes_of}
use Rattle.cdb_program.specs.Races.{RacesOn}
use Rattle.cdb_base.specs.Requests.{texts}
use Rattle.cdb_program.proofs.OpenedFiles.{fails_before, fails_later, read_then}
use Rattle.cdb_program.proofs.races.race_files.Goals as goal

pub returns-in_err-json-clause-does : goal.returns-in_err-json-clause-does
returns-in_err-json-clause-does g c =
    let p = err_from_is_err_and c.from_residual.result c.from_residual.ensures.1 in
    rw (p.1, p.2, ← c.world.view_is)
    (refl, inl (fails_before _ _ (c.args.setup.now ∷ []) (texts c.args.scripts.now) c.in_err-json.field-0.0 c.in_err-json.ensures, refl))

pub returns-in_err-contents-clause-does : goal.returns-in_err-contents-clause-does
returns-in_err-contents-clause-does g c =
    let p = err_from_is_err_and c.from_residual-in_err-contents.result c.from_residual-in_err-contents.ensures.1 in
    let fails =
    fails_later _ _ _ (c.args.setup.now ∷ []) (texts c.args.scripts.now) c.in_err-contents.field-0.0 c.in_ok-json.ensures.0 c.in_err-contents.ensures in
    rw (p.1, p.2, ← c.world.view_is) (refl, inl (fails, refl))

pub returns-clause-does : goal.returns-clause-does
returns-clause-does g c =
    let json = c.in_ok-json.json.items in
    let contents = bytes_of c.in_ok-contents.contents.items in
    let read = read_then _ _ _ (c.args.setup.now ∷ []) (texts c.args.scripts.now) (json ∷ []) contents c.in_ok-json.ensures c.in_ok-contents.ensures in
    let raced : RacesOn json c.args.turns contents (g.O.Sink.stream c.world.inside.streams.output)
    (g.O.Sink.stream c.race_bytes.new.output) c.race_bytes.result =
    rw (← c.as_slice.ensures.value, ← c.as_slice-2.ensures.value) c.race_bytes.ensures in
    rw (← c.world.view_is) (refl, inr (json ∷ contents, read, raced))

pub returns-in_err-json-clause-error : goal.returns-in_err-json-clause-error
returns-in_err-json-clause-error g c = rw (← c.world.view_is) refl

pub returns-in_err-contents-clause-error : goal.returns-in_err-contents-clause-error
returns-in_err-contents-clause-error g c = rw (← c.world.view_is) refl

pub returns-clause-error : goal.returns-clause-error
returns-clause-error g c = rw (← c.world.view_is) refl
