-- What is done with a request leaves standard error out, and what is no request of sessions is done alone.
use Rattle.std.proofs.Common.{◌≡◌, ◌≢◌, ℕ, List, [], ◌∷◌, Option, Some, None, Bor, refl, length, arith}
use Rattle.std.specs.Prelude.{Vec}
use Rattle.std.specs.Global.{Global}
use Rattle.cdb_base.specs.Requests.{RequestView, Frames, Text, asked_for, texts}
use Rattle.cdb_base.specs.declared.request.Request.{Request}
use Rattle.cdb_base.specs.declared.request.Request.TheVariants as request
use Rattle.cdb_streams.specs.Streams.{Stream}
use Rattle.cdb_program.specs.Beginnings.{Named}
use Rattle.cdb_program.specs.Known.{Seen}
use Rattle.cdb_program.specs.Outcomes.{RequestEnd}
use Rattle.cdb_program.specs.Requests.{Does, IsDone, IsNoSession, PerformsAsked, PerformsSessions}
use Rattle.cdb_program.specs.Sessions.{DebugsHere, PerformsSeats}

pub does_but_error : (asked : RequestView) (old new : Seen) (error : Stream) (outcome : RequestEnd) → Does asked old new outcome
    → Does asked old (record new { error = error }) outcome
does_but_error (Frames setup script folder columns None) old new error outcome does = does
does_but_error (Frames setup script folder columns (Some step)) old new error outcome does = does
does_but_error asked old new error outcome does = does

-- what is not one of sessions is performed where it is done
pub record IsDoneAlone (asked : RequestView) : Type 0 where
  pub no_session : IsNoSession asked
  pub performs : (prompt : Text) (old new : Seen) (status : ℕ) → IsDone (Does asked) old new status → new.saved ≡ old.saved
      → PerformsAsked prompt asked old new status

pub done_alone : (it : Request)
    → ((setup : Bor Text) (seats : Vec (Bor Text) Global) (from journal page : Option (Bor Text)) → it ≡ request.Debug setup seats from journal page → ⊥)
    → IsDoneAlone (asked_for it)
done_alone (request.Debug setup seats from journal page) other = absurd (other setup seats from journal page refl)
done_alone it other = record { no_session = tt; performs = λ prompt old new status done saved. (done, saved) }

-- ---- sessions

module _ (it : Named) (prompt : Text) (old new : Seen) (status : ℕ) where
  pub done_here : (seats : List (Bor Text)) → length seats ≡ 0 → IsDone (DebugsHere it prompt) old new status
      → PerformsSessions it prompt (texts seats) old new status
  done_here [] none done = done
  done_here (seat ∷ seats) none done = absurd (omega arith)

  pub done_at_seats : (seats : List (Bor Text)) → length seats ≢ 0 → PerformsSeats it (texts seats) old new status
      → PerformsSessions it prompt (texts seats) old new status
  done_at_seats [] some done = absurd (some refl)
  done_at_seats (seat ∷ seats) some done = done
