use Rattle.std.proofs.Common.{◌≡◌, take}
use Rattle.std.specs.Prelude.{string_bytes}
use Rattle.cdb_journal.specs.Journals.{journal_text}
use Rattle.cdb_journal.proofs.text.journal_text.Given as goal

abbrev pub invariant-loop-entry : goal.invariant-loop-entry
invariant-loop-entry l = string_bytes l.text ≡ journal_text (take l.entry-index l.journal)
