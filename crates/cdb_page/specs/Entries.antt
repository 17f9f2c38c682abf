-- What a page has of each event, by positions in the history, from 1.
use Rattle.std.specs.Prelude.{◌≡◌, ℕ, suc, List, length, Some, slice_get}
use Rattle.cdb_causal.specs.Causality.{IsDirectCause}
use Rattle.cdb_causal.specs.Dependence.{depends}
use Rattle.cdb_rules.specs.RunView.{RunView}
use Rattle.cdb_trail.specs.Origins.{IsOriginIn}
use Rattle.cdb_page.specs.Listed.{AreAllIn, IsNeededBy}
pub use Rattle.cdb_page.specs.declared.entries.Entry.{Entry}

-- the entry of the event at a position: its direct causes, those of which it is one, the first event that needs it, and
-- from where its value came
pub record IsEntry (run : RunView) (at : ℕ) (entry : Entry) : Type 0 where
  pub causes : AreAllIn run.history (λ other. IsDirectCause depends run.history other at) entry.causes.items
  pub dependents : AreAllIn run.history (λ other. IsDirectCause depends run.history at other) entry.dependents.items
  pub needed : IsNeededBy run.history at entry.needed
  pub origin : IsOriginIn run at entry.origin

-- each event has its entry, in order
abbrev pub AreEntries : RunView → List Entry → Type 0
AreEntries run entries =
    (length entries ≡ length run.history)
    × ((i : ℕ) (entry : Entry) → slice_get entries i ≡ Some entry → IsEntry run (suc i) entry)
