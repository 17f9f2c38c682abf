use Rattle.std.proofs.Common.{refl, inl, inr, ◌∷◌, []}
use Rattle.std.proofs.lemmas.Result.{err_from_is_err_and}
use Rattle.cdb_program.proofs.WrittenTexts.{fails_after, made_written}
use Rattle.cdb_program.specs.Searches.{IsFaultOfShrunk, IsShrunkScript}
use Rattle.cdb_program.proofs.searches.shrink_to.Goals as goal

pub returns-in_err-json-clause-does : goal.returns-in_err-json-clause-does
returns-in_err-json-clause-does g c =
    let p = err_from_is_err_and c.from_residual.result c.from_residual.ensures.1 in
    rw (p.1, p.2, ← c.world.view_is) (refl, inl (c.in_err-json.ensures, refl))

pub returns-clause-does : goal.returns-clause-does
returns-clause-does g c =
    let json = c.in_ok-json.json.items in
    let bytes = c.in_ok-json.bytes.items in
    let said = rw (c.as_slice.ensures.value, c.as_slice-2.ensures.value) at c.shrunk-made.ensures in
    let goal = c.args.goal in
    rw (← c.world.view_is) (
      refl,
      inr (
        json ∷ bytes ∷ [],
        c.in_ok-json.ensures,
        (
          c.write_made.result,
          c.of_answer.ensures,
          made_written g.O.Sink.stream (IsShrunkScript goal json bytes) (IsFaultOfShrunk goal json bytes) (λ never. never)
              (λ text is. fails_after (IsFaultOfShrunk goal json bytes) json bytes is.0 is.1 (λ why so. so))
              c.shrunk-made.result c.write_made.result _ _ said.text said.fault c.write_made.ensures,
        ),
      ),
    )
