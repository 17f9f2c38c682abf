use Rattle.std.proofs.Common.{arith, sym, length}
use Rattle.std.proofs.lemmas.Bool.{eqb-true, eqb-false}
use Rattle.cdb_text.proofs.Numbers.{number_is, no_number}
use Rattle.cdb_text.proofs.words.number_of.Goals as goal
use Rattle.cdb_text.proofs.words.number_of.Goals.{then-is_empty-via-then-is_empty, then-is_empty-via-else-is_empty+then-word-gt6}
use Rattle.cdb_text.proofs.words.number_of.Goals.{then-is_empty-via-else-is_empty+else-word-gt6+then-word-eq48}

pub returns-then-is_empty : goal.returns-then-is_empty
returns-then-is_empty c =
    sym (no_number c.args.word.now (λ is.
    elim c.then-is_empty.branch [
      | then-is_empty-via-then-is_empty w ↦ omega (arith, is.some, eqb-true (length c.args.word.now) 0 (sym w.if-is_empty.ensures))
      | then-is_empty-via-else-is_empty+then-word-gt6 w ↦ omega (arith, is.few)
      | then-is_empty-via-else-is_empty+else-word-gt6+then-word-eq48 w ↦ is.first w.if-word-eq48.true
    ]))

pub returns : goal.returns
returns c =
    number_is c.args.word.now c.value_of.result (omega (arith, eqb-false (length c.args.word.now) 0 (sym c.if-is_empty.ensures)))
    (omega arith) c.if-word-eq48.false c.value_of.ensures
