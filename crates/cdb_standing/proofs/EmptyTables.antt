-- Tables in which nothing stands.
use Rattle.std.proofs.lemmas.Grind.{common_steps}
use Rattle.std.proofs.lemmas.List.{map-append}
use Rattle.std.proofs.lemmas.Option.{gets}
use Rattle.std.proofs.Common.{◌∙◌, ◌≡◌, ℕ, ◌≤◌, List, [], ◌∷◌, ◌++◌, Vec, length, Some, sym, ap, subst, arith}
use Rattle.cdb_base.specs.Positions.{nth}
use Rattle.cdb_base.specs.declared.event.Event.{Event}
use Rattle.cdb_standing.specs.InOrder.{events_of}
use Rattle.cdb_standing.specs.Accesses.{accessed, written, listed, cell}
use Rattle.cdb_standing.specs.Kept.{AreCounted}
use Rattle.cdb_standing.specs.Tables.{rows_in, row_of, steps_of, sent_of, history_in, standing, AreEmpty, HasRows, Stands, IsSound, IsCopy, IsMessage}
use Rattle.cdb_standing.specs.declared.tables.Copied.{Copied}
use Rattle.cdb_standing.specs.declared.tables.Tables.{Tables}
use Rattle.cdb_standing.proofs.RowUpdates.{rows_length}
use Rattle.cdb_standing.proofs.Rows.{none_at}
use Rattle.cdb_standing.proofs.Listed.{standing_only}
use Rattle.cdb_standing.proofs.Ordered.{nothing_in}

pub none_in : {T : Type 0} (table : List (List T)) (p k : ℕ) (x : T) → AreEmpty table → nth (row_of table p) k ≡ Some x → ⊥
none_in table p k x empty at = none_at k x (subst (λ row. nth row k ≡ Some x) (empty p) at)

-- a row without items more
pub empty_push : {T Z : Type 0} (table : List (Vec T Z)) (row : Vec T Z) → row.items ≡ [] → AreEmpty (rows_in table) → AreEmpty (rows_in (table ++ row ∷ []))
empty_push {T} {Z} table row none empty p = rw (map-append (λ (v : Vec T Z). v.items) table (row ∷ [])) (grind (arith, common_steps, gets, empty p))

module _ (t : Tables) (no_steps : AreEmpty (steps_of t)) (no_sends : AreEmpty (sent_of t)) where
  nothing : (mark : ℕ) (it : Event) → Stands t mark it → ⊥
  nothing mark it at = grind (arith, common_steps, gets)

  no_copy : (s m to : ℕ) (copied : Copied) → IsCopy (sent_of t) s m to copied → ⊥
  no_copy s m to copied copy = none_in (sent_of t) s m copy.it no_sends copy.was_sent

  no_message : (s m k : ℕ) → IsMessage (sent_of t) s m k → ⊥
  no_message s m k message = none_in (sent_of t) s m message.it no_sends message.was_sent

  empty_sound : length (steps_of t) ≡ 9 → length (sent_of t) ≡ 9 → IsSound t
  empty_sound nine nine' =
      let few : (p : ℕ) → length (row_of (steps_of t) p) ≤ 65535 = λ p. rw (no_steps p) (omega arith) in
      grind (arith, nothing, no_message, no_copy)

  pub empty_history : history_in t ≡ []
  empty_history = ap events_of (nothing_in (standing t) (λ x h. nothing x.mark x.event (standing_only t x h)))

pub empty_counted : {t : Tables} → AreEmpty (steps_of t) → AreEmpty (sent_of t) → AreEmpty (rows_in t.accesses.items)
    → AreEmpty (rows_in t.writes.items) → HasRows t → AreCounted t 0
empty_counted {t} no_steps no_sends no_accesses no_writes rows =
    record {
      kept = record {
        sound = empty_sound t no_steps no_sends (rows_length _ ∙ rows.processes) (rows_length _ ∙ rows.senders);
        accesses = record {
          count = rows_length _ ∙ rows.accesses;
          each = λ p n one nine less. no_accesses (cell p n) ∙ sym (ap (listed accessed n 1) (no_steps p));
        };
        writes = record {
          count = rows_length _ ∙ rows.writes;
          each = λ p n one nine less. no_writes (cell p n) ∙ sym (ap (listed written n 1) (no_steps p));
        };
      };
      number = sym (ap length (empty_history t no_steps no_sends));
    }
