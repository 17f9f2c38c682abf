use Rattle.std.proofs.Common.{List, ℕ, refl}
use Rattle.std.proofs.lemmas.Result.{err_from_is_err_and}
use Rattle.cdb_base.specs.Limits.{MAX_SEATS}
use Rattle.cdb_control.specs.declared.control.Entry.{Entry}
use Rattle.cdb_rules.specs.Rules.{Rules}
use Rattle.cdb_setup.specs.Format.{Encodes}
use Rattle.cdb_setup.specs.Parts.{Parts}
use Rattle.cdb_streams.specs.Endings.{Complete}
use Rattle.cdb_streams.specs.Streams.{Stream}
use Rattle.cdb_streams.proofs.StreamEnds.{only_as, written_as}
use Rattle.cdb_journal.specs.Journals.{GivesEntries}
use Rattle.cdb_journal.specs.Replays.{Replays, RepliesAgain}
use Rattle.cdb_journal.specs.SeatReplies.{seat_replies_along, seat_replies_text}
use Rattle.cdb_journal.proofs.Again.{replies_again}
use Rattle.cdb_journal.proofs.RepliesToSeats.{read_seats, read_few, replay_wrote}
use Rattle.cdb_journal.proofs.replays.replay.Goals as goal

pub write_replies-requires-clause-seats : goal.write_replies-requires-clause-seats
write_replies-requires-clause-seats g c =
    let given = c.in_ok-entries.ensures.entries in
    rw c.as_slice.ensures.value (read_seats c.in_ok-entries.entries.items given.0 given.2)

pub write_replies-requires-clause-room : goal.write_replies-requires-clause-room
write_replies-requires-clause-room g c =
    let given = c.in_ok-entries.ensures.entries in
    rw c.as_slice.ensures.value (read_few c.in_ok-entries.entries.items given.0 given.2)

replay_of : (rules : Parts → Rules) (json : List ℕ) (setup : Parts) (entries : List Entry) (old new : Stream) → Encodes json setup
    → GivesEntries old new entries → Replays rules json old new (seat_replies_text (seat_replies_along (rules setup) setup MAX_SEATS entries))
replay_of rules json setup entries old new encodes given =
    (given.0, given.1, record { setup = setup; entries = entries; encodes = encodes; lines = given.2; is = refl })

pub returns-in_err-write_replies-clause-wrote : goal.returns-in_err-write_replies-clause-wrote
returns-in_err-write_replies-clause-wrote g c =
    let p = err_from_is_err_and c.from_residual-in_err-write_replies.result c.from_residual-in_err-write_replies.ensures.1 in
    let old = g.R.Source.stream c.args.journal.now in
    let new = g.R.Source.stream c.read_entries.new.journal in
    rw (p.1, p.2)
    (replay_wrote g.W.Sink.stream (Unit {0}) _ c.in_err-write_replies.field-0.0 c.args.out.now c.write_replies.new.out _
    (replay_of g.T.Runs.rules c.args.setup.now c.in_ok-setup.setup c.in_ok-entries.entries.items old new
    c.in_ok-setup.ensures.found c.in_ok-entries.ensures.entries)
    (rw c.as_slice.ensures.value at c.in_err-write_replies.ensures))

pub returns-clause-wrote : goal.returns-clause-wrote
returns-clause-wrote g c =
    let old = g.R.Source.stream c.args.journal.now in
    let new = g.R.Source.stream c.read_entries.new.journal in
    only_as g.W.Sink.stream Complete c.args.out.now c.write_replies.new.out _ _
    (replay_of g.T.Runs.rules c.args.setup.now c.in_ok-setup.setup c.in_ok-entries.entries.items old new
    c.in_ok-setup.ensures.found c.in_ok-entries.ensures.entries)
    (rw c.as_slice.ensures.value at c.in_ok-write_replies.ensures)

pub returns-in_err-write_replies-clause-again : goal.returns-in_err-write_replies-clause-again
returns-in_err-write_replies-clause-again g c =
    let law = c.journals_are_replayed.ensures in
    written_as _ _ _ _ _ _ (λ text replays. replies_again law.read_back law.replied_again _ _ _ _ text replays)
    (returns-in_err-write_replies-clause-wrote g c)

pub returns-clause-again : goal.returns-clause-again
returns-clause-again g c =
    let old = g.R.Source.stream c.args.journal.now in
    let new = g.R.Source.stream c.read_entries.new.journal in
    let law = c.journals_are_replayed.ensures in
    written_as g.W.Sink.stream Complete c.args.out.now c.write_replies.new.out (Replays g.T.Runs.rules c.args.setup.now old new)
    (RepliesAgain g.T.Runs.rules c.args.setup.now old new) (replies_again law.read_back law.replied_again _ _ _ _) (returns-clause-wrote g c)
