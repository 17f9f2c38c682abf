use Rattle.std.proofs.Common.{ℕ, List, refl, inl, inr, ◌∷◌, []}
use Rattle.std.proofs.lemmas.Result.{err_from_is_err_and}
use Rattle.cdb_agreement.specs.Algorithms.{rules}
use Rattle.cdb_explain.specs.declared.fault.AnswerFault.TheVariants.{Play}
use Rattle.cdb_goal.specs.declared.goal.Goal.{Goal}
use Rattle.cdb_search.specs.Found.{IsFaultOfSearch, IsFound}
use Rattle.cdb_streams.specs.Faults.{of_output}
use Rattle.cdb_streams.specs.declared.buffer.OutputFault.{OutputFault}
use Rattle.cdb_streams.specs.declared.buffer.OutputFault.TheVariants as output
use Rattle.cdb_program.proofs.WrittenTexts.{made_written}
use Rattle.cdb_program.specs.TextsMade.{OrWriterFails}
use Rattle.cdb_program.proofs.searches.search_for.Goals as goal

search_fails : (json : List ℕ) (goal : Goal) (walks : ℕ) (text : List ℕ) → IsFound rules json goal text
    → (why : OutputFault) → OrWriterFails (IsFaultOfSearch json walks) (Play (of_output why))
search_fails json goal walks text is output.Write = tt
search_fails json goal walks text is (output.NoMemory refused) = is.1.0

pub returns-in_err-json-clause-does : goal.returns-in_err-json-clause-does
returns-in_err-json-clause-does g c =
    let p = err_from_is_err_and c.from_residual.result c.from_residual.ensures.1 in
    rw (p.1, p.2, ← c.world.view_is) (refl, inl (c.in_err-json.ensures, refl))

pub returns-clause-does : goal.returns-clause-does
returns-clause-does g c =
    let json = c.in_ok-json.json.items in
    let said = rw c.as_slice.ensures.value at c.search-found.ensures in
    rw (← c.world.view_is) (
      refl,
      inr (
        json ∷ [],
        c.in_ok-json.ensures,
        (
          c.write_made.result,
          c.of_answer.ensures,
          made_written g.O.Sink.stream (IsFound rules json c.args.goal) (IsFaultOfSearch json c.args.walks) (λ never. never)
              (search_fails json c.args.goal c.args.walks)
              c.search-found.result c.write_made.result _ _ said.text said.fault c.write_made.ensures,
        ),
      ),
    )
