use Rattle.std.proofs.Common.{◌≡◌, ◌∙◌, ℕ, List}
use Rattle.cdb_control.specs.Journal.{Journaled}
use Rattle.cdb_session.specs.Debugs.{IsBegun}
use Rattle.cdb_session.specs.Greetings.{greeting_text}
use Rattle.program_tests.proofs.tests.several_seats.hold.Goals as goal

-- the greeting is that of the control's setup
greeted : (json from : List ℕ) (seats : ℕ) (control : Journaled) (greeting : List ℕ) → IsBegun json from seats control greeting
    → greeting ≡ greeting_text control.setup
greeted json from seats control greeting (setup, encodes, (entries, is, opened), told) = rw opened told

pub debug_seats-ended-requires-clause-greeting : goal.debug_seats-ended-requires-clause-greeting
debug_seats-ended-requires-clause-greeting g c κs within =
    c.as_slice.ensures.value ∙ greeted _ _ _ _ _ (rw c.expect-control.ensures at c.begin.ensures.begun)
