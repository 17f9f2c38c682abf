use Rattle.std.proofs.Common.{◌≡◌, ◌++◌, drop, length, take}
use Rattle.std.specs.Prelude.{string_bytes}
use Rattle.cdb_journal.specs.SeatReplies.{news_lines, seat_replies_in}
use Rattle.cdb_journal.proofs.CarriedOut.{carried_out}
use Rattle.cdb_journal.proofs.news.push_each.Given as goal

abbrev pub invariant-loop-entry : goal.invariant-loop-entry
invariant-loop-entry g l = record {
  control : l.control ≡ carried_out l.initial.control (take l.entry-index l.entries);
  text : string_bytes l.text
      ≡ string_bytes l.initial.text ++ news_lines l.reader (drop (length l.initial.control.journal) (seat_replies_in g.R.Runs.rules l.control));
}
