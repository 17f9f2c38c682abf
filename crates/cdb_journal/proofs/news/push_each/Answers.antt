use Rattle.std.proofs.Common.{length, refl, ap, append_assoc, append-nil, arith, length-append, take}
use Rattle.cdb_control.specs.Journal.{Journaled}
use Rattle.cdb_journal.proofs.CarriedOut.{one_more_done}
use Rattle.cdb_journal.proofs.NewsLines.{news_more, no_news}
use Rattle.cdb_journal.proofs.news.push_each.Goals as goal

pub loop-entry-init : goal.loop-entry-init
loop-entry-init g c =
    let first = c.args.control.now in
    record {
      control = rw append-nil refl;
      text = rw (no_news g.R.Runs.rules first c.args.reader (length first.journal) (omega arith), append-nil) refl;
    }

pub loop-entry-preserved : goal.loop-entry-preserved
loop-entry-preserved g c =
    let rules = g.R.Runs.rules in
    let first = c.args.control.now in
    let before = c.loop-entry.control in
    let so = c.loop-entry.invariant in
    let longer = ap (λ (k : Journaled). length k.journal) so.control in
    let more = news_more rules before c.args.reader (length first.journal) c.entry-item.result
    (omega (arith, longer, length-append first.journal (take c.loop-entry.entry-index c.args.entries.now))) in
    record {
      control = one_more_done rules first c.args.entries.now c.requires.rooms
          so.control c.loop-entry-test.true c.entry-item.is c.in_ok-push_entry.ensures.done;
      text = rw (c.in_ok-push_entry.ensures.text, so.text, c.in_ok-push_entry.ensures.done, more, append_assoc) refl;
    }
