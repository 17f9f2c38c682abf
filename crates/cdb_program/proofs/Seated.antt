-- Seats are found one after the other, and what is known of their sessions.
use Rattle.std.proofs.Common.{◌≡◌, ℕ, zero, suc, ◌+◌, ◌<◌, List, [], ◌∷◌, ◌++◌, length, get_or, take}
use Rattle.std.proofs.Common.{map, Bor, refl, sym, ap, subst, ◌∙◌, arith}
use Rattle.std.specs.Prelude.{Option, Some, None, option_map, Result}
use Rattle.std.proofs.lemmas.List.{length-map, get_or-map}
use Rattle.std.proofs.lemmas.Slice.Zip.{AllZip-long}
use Rattle.cdb_session.specs.Moves.{Known}
use Rattle.cdb_journal.specs.OpenedFrom.{IsOpenedFrom}
use Rattle.cdb_shared_session.specs.Openings.{SeatSeen}
use Rattle.cdb_rules.specs.RunView.{RunView}
use Rattle.cdb_session.specs.Exchanges.{Answer}
use Rattle.cdb_session.specs.declared.inquiry.Inquiry.{Inquiry}
use Rattle.cdb_shared_session.specs.SharedSessions.{HasEnded, IsFinished}
use Rattle.cdb_shared_session.specs.KeptOutcomes.{kept_outcome}
use Rattle.cdb_shared_session.specs.Reported.{RunsSessions}
use Rattle.cdb_shared_session.specs.Reports.{outcomes, failures_text, status_of}
use Rattle.cdb_shared_session.specs.declared.endpoint.Finished.{Finished}
use Rattle.cdb_shared_session.specs.declared.keeping.Kept.{Kept}
use Rattle.cdb_shared_session.proofs.Ended.{ended_by}
use Rattle.cdb_rules.specs.Rules.{Rules}
use Rattle.cdb_setup.specs.Parts.{Parts}
use Rattle.cdb_streams.specs.declared.fault.PlayFault.{PlayFault}
use Rattle.cdb_streams.specs.declared.fault.PlayFault.TheVariants as play
use Rattle.cdb_base.specs.Requests.{Text, texts}
use Rattle.cdb_program.specs.Beginnings.{Named, made_names, read_names}
use Rattle.cdb_program.specs.Known.{FilesSeen, after_opening}
use Rattle.cdb_program.specs.FilesRead.{FailsToRead}
use Rattle.cdb_program.specs.declared.fault.Fault.{Fault}
use Rattle.cdb_program.specs.declared.fault.Fault.TheVariants.{Play}
use Rattle.cdb_streams.specs.declared.source.ReadFault.{ReadFault}
use Rattle.cdb_program.specs.SeatStreams.{AreOpenersOf, CanOpenSeat, IsOpenerOf}
use Rattle.cdb_program.specs.Sessions.{IsFaultOfSeats}
use Rattle.cdb_streams.specs.Endings.{whole_ending}
use Rattle.cdb_streams.specs.Streams.{Stream, Writes}
use Rattle.cdb_streams.specs.declared.sink.Failed.{Failed}
use Rattle.cdb_program.proofs.Seen.{stream_written, stream_writes}
use Rattle.cdb_program.proofs.OpenedFiles.{AllZip-append, fails_before, fails_later, one_more_name}

-- ---- seats that are found

-- Why there are no sessions: the setup or the journal can't be read, or a seat is refused, or a file.
module _ (it : Named) (seats : List Text) (old new : FilesSeen) where
  as_fault : (fault : Fault) → FailsToRead old new (read_names it ++ (seats ++ made_names it)) fault → IsFaultOfSeats it seats old new fault
  as_fault (Play play.Read name) fails = fails
  as_fault (Play (play.NoMemory refused) name) fails = fails
  as_fault other fails = absurd fails

  pub none_begun : (fault : Fault) → FailsToRead old new (read_names it) fault → IsFaultOfSeats it seats old new fault
  none_begun fault fails = as_fault fault (fails_before old new (read_names it) (seats ++ made_names it) fault fails)

  pub none_after : (begun : FilesSeen) (fault : Fault) → begun ≡ after_opening old (read_names it)
      → FailsToRead begun new (seats ++ made_names it) fault → IsFaultOfSeats it seats old new fault
  none_after begun fault opened fails = as_fault fault (fails_later old begun new (read_names it) (seats ++ made_names it) fault opened fails)

module _ {P : Type 0} (opens : P → Result SeatSeen ReadFault → Type 0) where
  -- the opener of one more is that of its name
  pub seat_openers : (old mid : FilesSeen) (names : List (Bor (List ℕ))) (i : ℕ) (d : Bor (List ℕ)) (openers : List P) (opener : P)
      → i < length names → mid ≡ after_opening old (texts (take i names))
      → AreOpenersOf opens old (texts (take i names)) openers → IsOpenerOf opens mid (get_or names i d).now opener
      → AreOpenersOf opens old (texts (take (i + 1) names)) (openers ++ opener ∷ [])
  seat_openers old mid names i d openers opener below before seats its =
      let name = (get_or names i d).now in
      subst (λ (l : List (List ℕ)). AreOpenersOf opens old l (openers ++ opener ∷ [])) (sym (one_more_name names i d below))
      (AllZip-append (IsOpenerOf opens old) (texts (take i names)) (name ∷ []) openers (opener ∷ []) seats
      (subst (λ (f : FilesSeen). IsOpenerOf opens f name opener) before its, tt))

  -- the openers are those of the names, whatever was opened before
  pub seats_known : (old mid : FilesSeen) (first names : List (List ℕ)) (openers : List P)
      → mid ≡ after_opening old first → AreOpenersOf opens mid names openers → AreOpenersOf opens old names openers
  seats_known old mid first names openers before are = subst (λ (f : FilesSeen). AreOpenersOf opens f names openers) before are

  opener_at : (files : FilesSeen) (names : List (List ℕ)) (openers : List P) (k : ℕ) (n : List ℕ) (p : P)
      → AreOpenersOf opens files names openers → k < length openers → IsOpenerOf opens files (get_or names k n) (get_or openers k p)
  opener_at files [] [] k n p are low = absurd (omega arith)
  opener_at files [] (opener ∷ openers) k n p are low = absurd are
  opener_at files (name ∷ names) [] k n p are low = absurd are
  opener_at files (name ∷ names) (opener ∷ openers) zero n p are low = are.0
  opener_at files (name ∷ names) (opener ∷ openers) (suc k) n p are low = opener_at files names openers k n p are.1 (omega arith)

-- ---- what is known of their sessions

some_of : {A : Type 0} (xs : List A) → 0 < length xs → A
some_of [] low = absurd (omega arith)
some_of (x ∷ xs) low = x

same_known : (ended : Option Known) → option_map (λ (k : Known). k) ended ≡ ended
same_known (Some ended) = refl
same_known None = refl

module _ {T : Type 0} (known : T → Known) where
  abbrev known_finished : Finished T → Finished Known
  known_finished finished = record { console = option_map known finished.console; outcome = finished.outcome }

  same_outcomes : (finished : List (Finished T)) → outcomes (map known_finished finished) ≡ outcomes finished
  same_outcomes [] = refl
  same_outcomes (its ∷ finished) = ap (λ (l : List (Result (Unit {0}) PlayFault)). its.outcome ∷ l) (same_outcomes finished)

-- sessions that took place, by what is known of their seats, of what each read and wrote, and of the streams
module _ {P T J O E : Type 0} (rules : Parts → Rules) (Answers : RunView → Inquiry → Answer → Type 0) (known : T → Known)
    (opens : P → Result SeatSeen ReadFault → Type 0) (file_stream : J → Stream) (output_stream : O → Stream) (error_stream : E → Stream) where
  pub holds_seen : {json from : List ℕ} {openers : List P} {file : Option J} {output output_after : O} {error error_after : E}
      {ended : ℕ × Option (Kept J)} (files : FilesSeen) (names : List Text) → AreOpenersOf opens files names openers
      → RunsSessions rules Answers known opens file_stream output_stream error_stream json from openers file output output_after error error_after ended
      → RunsSessions rules Answers (λ (k : Known). k) (CanOpenSeat files) file_stream (λ (s : Stream). s)
      (λ (s : Stream). s) json from names file (output_stream output) (output_stream output_after) (error_stream error)
      (error_stream error_after) ended
  holds_seen {from = from} {openers = openers} {output = output} {output_after = output_after} {error = error} {error_after = error_after}
      {ended = ended} files names are h =
      let same = same_outcomes known h.finished in
      let many = sym (AllZip-long (IsOpenerOf opens files) names openers are) in
      record {
        setup = h.setup;
        encodes = h.encodes;
        begun = h.begun;
        goes_on = subst (λ (n : ℕ). IsOpenedFrom h.setup n from h.begun) (sym many) h.goes_on;
        control = h.control;
        finished = map (known_finished known) h.finished;
        writable = h.writable;
        sessions = record {
          setup_is = h.sessions.setup_is;
          seats_are = h.sessions.seats_are ∙ sym many;
          begins = h.sessions.begins;
          entries = h.sessions.entries;
          many = length-map h.finished (known_finished known) ∙ h.sessions.many ∙ sym many;
          each = λ k n a low.
              let below : k < length openers = omega (arith, low, many) in
              let d = some_of openers (omega (arith, below)) in
              let e = some_of h.finished (omega (arith, below, h.sessions.many)) in
              let its_end = get_or h.finished k e in
              let its =
              ended_by rules Answers h.begun h.control (k + 1) (opens (get_or openers k d)) (CanOpenSeat files (get_or names k n))
              (opener_at opens files names openers k n d are below) (option_map known its_end.console) its_end.outcome (h.sessions.each k d e below) in
              let finished = sym (get_or-map (known_finished known) h.finished k e a (omega (arith, below, h.sessions.many))) in
              subst (λ (x : Finished Known).
              IsFinished rules Answers (λ (k : Known). k) h.begun h.control (k + 1) (CanOpenSeat files (get_or names k n)) x) finished
              (subst (λ (o : Option Known). HasEnded rules Answers h.begun h.control (k + 1) (CanOpenSeat files (get_or names k n)) o its_end.outcome)
              (sym (same_known (option_map known its_end.console))) its);
        };
        keeps = h.keeps;
        written = h.written;
        journal = stream_written output_stream (whole_ending h.written) output output_after _ h.journal;
        reported = h.reported;
        lines =
            subst (λ (x : List (Result (Unit {0}) PlayFault)). Writes (λ (s : Stream). s) h.reported (error_stream error)
            (error_stream error_after) (failures_text h.written (kept_outcome ended.1) x)) (sym same)
            (stream_writes error_stream (Unit {0}) Failed h.reported error error_after _ h.lines);
        status_is = h.status_is ∙ (λ i. status_of h.written (kept_outcome ended.1) (sym same i));
      }
