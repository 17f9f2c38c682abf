-- A control that keeps its journal in a file, call by call.
use Rattle.std.proofs.Common.{◌≡◌, ℕ, ◌≤◌, [], ◌∷◌, length, refl, ap, ◌∙◌}
use Rattle.cdb_base.specs.Limits.{MAX_ENTRIES}
use Rattle.cdb_commands.specs.declared.command.Command.{Command}
use Rattle.cdb_control.specs.Journal.{Journaled, Begins, entry, extended}
use Rattle.cdb_control.proofs.Own.{Begins-refl, Begins-trans}
use Rattle.cdb_rules.specs.Rules.{Rules}
use Rattle.cdb_setup.specs.Parts.{Parts}
use Rattle.cdb_session.specs.Styles.{Onward, stays, goes}
use Rattle.cdb_streams.specs.Streams.{Stream}
use Rattle.cdb_shared_session.specs.KeptAlone.{KeptView, KeepsOn, IsLaterKept}
use Rattle.cdb_shared_session.proofs.KeptEntries.{keeps_longer}

module _ {J : Type 0} (stream : J → Stream) where
  pub later_kept : (first now : KeptView J) → length (first.control).journal ≤ MAX_ENTRIES
      → Onward (IsLaterKept stream) first now → IsLaterKept stream first now
  later_kept first _ few stays =
      record { setup = refl; seats = refl; begins = Begins-refl (first.control).journal; few = few; keeps = λ first kept. kept }
  later_kept first now few (goes middle _ before later) =
      let b = later_kept first middle few before in
      record {
        setup = later.setup ∙ b.setup;
        seats = later.seats ∙ b.seats;
        begins = Begins-trans (first.control).journal (middle.control).journal (now.control).journal b.begins later.begins;
        few = later.few;
        keeps = λ one kept. later.keeps one (b.keeps one kept);
      }

  -- one entry more, and what the file lacked
  pub one_more : (rules : Parts → Rules) (old new : KeptView J) (seat : ℕ) (command : Command) (now : Journaled)
      → now ≡ extended rules old.control seat command → new.control ≡ now → length now.journal ≤ MAX_ENTRIES
      → KeepsOn stream (record old { control = now }) new → IsLaterKept stream old new
  one_more rules old new seat command now is same few keeps =
      let begins : Begins (old.control).journal now.journal = (entry seat command ∷ [], ap (λ (c : Journaled). c.journal) is) in
      record {
        setup = ap (λ (c : Journaled). c.setup) (same ∙ is);
        seats = ap (λ (c : Journaled). c.seats) (same ∙ is);
        begins = rw same begins;
        few = rw same few;
        keeps = λ first kept. keeps first (keeps_longer stream first old.file old.count (old.control).journal now.journal kept begins);
      }
