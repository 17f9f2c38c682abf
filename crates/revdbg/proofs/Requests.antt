-- Which action is made.
use Rattle.std.proofs.Common.{◌≡◌, inl, inr, ℕ, List, [], Option, Some, None, Result, Ok, Err, IfOk, IfErr, subst, sym}
use Rattle.clap.specs.Words.{Row}
use Rattle.cdb_base.specs.Memory.{no_memory}
use Rattle.cdb_base.specs.Requests.{RequestView, Script, Play, Race, Ask, Frames, Debug, Replay, Search, Shrink, Same, Text}
use Rattle.cdb_arguments.specs.RequestsOfRows.{IsOfKinds, NamesAsked}
use Rattle.cdb_arguments.proofs.Turns.{race_has_turns}
use Rattle.cdb_arguments.specs.declared.request.ArgumentsFault.{ArgumentsFault}
use Rattle.cdb_arguments.specs.declared.request.ArgumentsFault.TheVariants as fault_of_asking
use Rattle.cdb_program.specs.Known.{Seen}
use Rattle.cdb_program.specs.Requests.{HasTurns}
use Rattle.cdb_program.specs.declared.fault.Fault.TheVariants as fault
use Rattle.cdb_program.specs.declared.request.Action.{Action}
use Rattle.cdb_program.specs.declared.request.Action.TheVariants.{Perform, Print, Refuse}
use Rattle.revdbg.specs.Requested.{IsAskedBy, IsOutOfMemory, IsRefusal, IsUnread, OrOutOfMemory, PerformsOne}
use Rattle.revdbg.specs.declared.requested.Unread.{Unread}
use Rattle.revdbg.specs.declared.requested.Unread.TheVariants as unread

-- where nothing can be wrong with the arguments, an allocation failed
no_refusal : (action : Action) → IsRefusal [] action → ⊥
no_refusal (Perform request prompt) is = is
no_refusal (Print text) is = is.1
no_refusal (Refuse (fault.Refused text)) is = is.1
no_refusal (Refuse (fault.Play why name)) is = is
no_refusal (Refuse (fault.Race why)) is = is
no_refusal (Refuse (fault.Journal why)) is = is
no_refusal (Refuse (fault.Page why)) is = is
no_refusal (Refuse (fault.Answer why name)) is = is
no_refusal (Refuse fault.NoGoal) is = is
no_refusal (Refuse fault.Different) is = is
no_refusal (Refuse fault.TooManySeats) is = is

pub only_memory : (action : Action) → OrOutOfMemory (IsRefusal []) action → IsOutOfMemory action
only_memory action (inl refusal) = absurd (no_refusal action refusal)
only_memory action (inr memory) = memory

pub memory_has_no_kinds : (fault : ArgumentsFault) → fault ≡ fault_of_asking.NoMemory no_memory → IsOfKinds [] fault
memory_has_no_kinds fault is = subst (IsOfKinds []) (sym is) tt

-- a race that the matches name has turns
pub turns_named : (found : Option (Text × List Row)) (asked : RequestView) → NamesAsked found asked → HasTurns asked
turns_named None asked is = rw is tt
turns_named (Some found) (Race setup turns scripts) names = race_has_turns setup turns scripts (Some found) names
turns_named (Some found) Script names = tt
turns_named (Some found) (Play setup script) names = tt
turns_named (Some found) (Ask setup script question) names = tt
turns_named (Some found) (Frames setup script folder columns step) names = tt
turns_named (Some found) (Debug setup seats from journal page) names = tt
turns_named (Some found) (Replay setup journal) names = tt
turns_named (Some found) (Search setup goal seed walks) names = tt
turns_named (Some found) (Shrink setup script goal) names = tt
turns_named (Some found) (Same setup first second) names = tt

-- an allocation failed before it was known what is asked for
pub memory_is_asked : (prompt : Text) (words : List Text) (action : Action) → IsOutOfMemory action → IsAskedBy prompt words action
memory_is_asked prompt words action is = record { plain = λ asked line. inr is; taken = λ none. inr is; refused = λ some. inr is }

-- ---- the arguments as they were read

pub ok_then : {A E : Type 0} (P Q : A → Type 0) (it : Result A E) → ((value : A) → P value → Q value) → IfOk it P → IfOk it Q
ok_then P Q (Ok value) then is = then value is
ok_then P Q (Err error) then is = tt

pub err_then : {A E : Type 0} (P Q : E → Type 0) (it : Result A E) → ((error : E) → P error → Q error) → IfErr it P → IfErr it Q
err_then P Q (Ok value) then is = tt
err_then P Q (Err error) then is = then error is

-- where the arguments were read, but not their texts, an allocation failed
pub asked_of_words : {W E S : Type 0} (words_of : W → List Text) (texts_of : S → List Text)
    (prompt : Text) (old new : Seen) (status : ℕ) (words : Result W E) (found : Result S Unread)
    → IfOk found (λ found. IfOk words (λ words. texts_of found ≡ words_of words))
    → IfErr found (λ reason. IfOk words (λ words. reason ≡ unread.NoMemory no_memory))
    → IfOk found (λ found. PerformsOne (IsAskedBy prompt (texts_of found)) old new status)
    → IfErr found (λ reason. PerformsOne (IsUnread reason) old new status)
    → IfOk words (λ words. PerformsOne (IsAskedBy prompt (words_of words)) old new status)
asked_of_words words_of texts_of prompt old new status (Ok words) (Ok found) same memory asked unread =
    subst (λ (words : List Text). PerformsOne (IsAskedBy prompt words) old new status) same asked
asked_of_words words_of texts_of prompt old new status (Ok words) (Err reason) same memory asked unread =
    let done = subst (λ (reason : Unread). PerformsOne (IsUnread reason) old new status) memory unread in
    (done.0, memory_is_asked prompt (words_of words) done.0 done.1, done.2)
asked_of_words words_of texts_of prompt old new status (Err error) found same memory asked unread = tt

pub is_no_error : {A E : Type 0} (value : A) (error : E) → Ok value ≡ Err error → ⊥
is_no_error {A = A} {E = E} value error is = subst (λ (it : Result A E). IfErr it (λ _. ⊥)) is tt
