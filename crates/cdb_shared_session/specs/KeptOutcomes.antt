-- A journal that is kept in a file while its sessions go on.
use Rattle.std.specs.Prelude.{◌≡◌, ℕ, ◌≤◌, List, ◌++◌, length, take, drop, Option, Some, None, Result, Ok, Err}
use Rattle.cdb_control.specs.declared.control.Entry.{Entry}
use Rattle.cdb_journal.specs.Journals.{journal_text}
use Rattle.cdb_streams.specs.Streams.{Stream, Takes, Fails}
use Rattle.cdb_streams.specs.declared.buffer.OutputFault.{OutputFault}
use Rattle.cdb_streams.specs.declared.buffer.OutputFault.TheVariants as output
use Rattle.cdb_streams.specs.declared.sink.Failed.{Failed}
use Rattle.cdb_shared_session.specs.declared.keeping.Keeping.{Keeping}
use Rattle.cdb_shared_session.specs.declared.keeping.Kept.{Kept}

-- how the keeping ended; without a file there is no fault
abbrev pub kept_outcome : {J : Type 0} → Option (Kept J) → Result (Unit {0}) OutputFault
kept_outcome None = Ok tt
kept_outcome (Some kept) = kept.outcome

-- Of a file before and after, each seen as a stream
module _ {J : Type 0} (stream : J → Stream) where
  -- It took the text of the journal; or the writing failed, and it took a beginning of it; or memory was out at the
  -- end, and it took the text of the first entries.
  abbrev pub IsKept : Result (Unit {0}) OutputFault → J → J → List Entry → Type 0
  IsKept (Ok done) old new journal = Takes stream old new (journal_text journal)
  IsKept (Err output.Write) old new journal = Fails stream old new (journal_text journal)
  IsKept (Err (output.NoMemory refused)) old new journal =
      (first rest : List Entry) × (journal ≡ first ++ rest) × Takes stream old new (journal_text first)

  -- where there was a file, the journal was kept in it
  abbrev pub HasKept : Option J → Option (Kept J) → List Entry → Type 0
  HasKept None None journal = Unit {0}
  HasKept (Some old) (Some kept) journal = IsKept kept.outcome old kept.file journal
  HasKept file kept journal = ⊥

  -- Of the entries that were seen it took those from the one position up to another; or the writing failed
  abbrev pub Keeps : J → J → ℕ → Result ℕ Failed → List Entry → Type 0
  Keeps old new from (Ok to) seen =
      (from ≤ to) × (to ≤ length seen) × Takes stream old new (journal_text (drop from (take to seen)))
  Keeps old new from (Err failed) seen = Fails stream old new (journal_text (drop from seen))

  -- the same from the first entry on, where there is a file
  abbrev pub AreKept : Option J → Option J → Result ℕ Failed → List Entry → Type 0
  AreKept None None count seen = Unit {0}
  AreKept (Some old) (Some new) count seen = Keeps old new 0 count seen
  AreKept old new count seen = ⊥

  -- and what was kept before is kept on
  abbrev pub GoesOnKeeping : {R : Type 0} → Keeping R J → Keeping R J → Type 0
  GoesOnKeeping before after =
      (first : Option J) → AreKept first before.file before.count before.watch.seen
      → AreKept first after.file after.count after.watch.seen
