use Rattle.std.proofs.Common.{◌≡◌, refl, inl, inr, ◌∷◌, []}
use Rattle.std.proofs.lemmas.Result.{err_from_is_err_and}
use Rattle.cdb_program.proofs.Seen.{stream_written}
use Rattle.cdb_program.proofs.compares.compare_files.Goals as goal

pub returns-in_err-json-clause-does : goal.returns-in_err-json-clause-does
returns-in_err-json-clause-does g c =
    let p = err_from_is_err_and c.from_residual.result c.from_residual.ensures.1 in
    rw (p.1, p.2, ← c.world.view_is) (refl, inl (c.in_err-json.ensures, refl))

pub returns-clause-does : goal.returns-clause-does
returns-clause-does g c =
    let json = c.in_ok-json.json.items in
    let one = c.in_ok-json.one.items in
    let other = c.in_ok-json.other.items in
    let said = c.same-compared.ensures in
    let json_is : c.as_slice.result.now ≡ json = c.as_slice.ensures.value in
    let one_is : c.as_slice-2.result.now ≡ one = c.as_slice-2.ensures.value in
    let other_is : c.as_slice-3.result.now ≡ other = c.as_slice-3.ensures.value in
    rw (← c.world.view_is) (
      refl,
      inr (
        json ∷ one ∷ other ∷ [],
        c.in_ok-json.ensures,
        (
          c.same-compared.result,
          c.of_same.ensures,
          rw (← json_is, ← one_is, ← other_is)
              (record { wrote = stream_written g.O.Sink.stream _ _ _ _ said.wrote; same = said.same; fault = said.fault }),
        ),
      ),
    )
