use Rattle.std.proofs.Common.{◌≡◌, ◌∷◌, ◌++◌, [], ℕ, List, ap, ◌∙◌, arith, codes, decimal}
use Rattle.std.proofs.lemmas.Fmt.{decimal_digit, decimal_step}
use Rattle.cdb_program.proofs.reports.write_answer_fault.Goals as goal

ten : decimal 10 ≡ codes "10"
ten = decimal_step 10 (omega arith) (omega arith) ∙ ap (λ (l : List ℕ). l ++ 48 ∷ []) (decimal_digit 1 (omega arith))

pub returns-in-NoStep : goal.returns-in-NoStep
returns-in-NoStep g c = rw (c.in-NoStep.is, ten) c.write_all.ensures

pub returns-in-TooManyEvents : goal.returns-in-TooManyEvents
returns-in-TooManyEvents g c = rw c.in-TooManyEvents.is c.write_all-in-TooManyEvents.ensures

pub returns-in-NotFound : goal.returns-in-NotFound
returns-in-NotFound g c = rw c.in-NotFound.is c.write_not_found.ensures

pub returns-in-DoesNotHold : goal.returns-in-DoesNotHold
returns-in-DoesNotHold g c = rw c.in-DoesNotHold.is c.write_all-in-DoesNotHold.ensures
