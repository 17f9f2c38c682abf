use Rattle.std.proofs.Common.{arith}
use Rattle.std.proofs.lemmas.List.{take_all}
use Rattle.std.proofs.lemmas.Result.{err_from_is_err_and}
use Rattle.cdb_journal.proofs.CarriedOut.{one_more_done}
use Rattle.cdb_journal.proofs.RepliesToSeats.{all_replies, as_many, cut_next, put_next}
use Rattle.cdb_journal.proofs.replays.perform_each.Goals as goal

pub returns-in_err-perform : goal.returns-in_err-perform
returns-in_err-perform g c =
    let p = err_from_is_err_and c.from_residual.result c.from_residual.ensures.1 in
    let so = c.loop-entry.invariant in
    rw (p.1, p.2)
    (cut_next g.T.Runs.rules c.args.control.now c.args.entries.now so.control c.loop-entry-test.true c.entry-item.is
    g.W.Sink.stream so.put c.perform.new.out c.perform.new.buffer c.in_err-perform.field-0.0 c.in_err-perform.ensures.put)

pub loop-entry-preserved : goal.loop-entry-preserved
loop-entry-preserved g c =
    let first = c.args.control.now in
    let entries = c.args.entries.now in
    let so = c.loop-entry.invariant in
    record {
      control = one_more_done g.T.Runs.rules first entries c.requires.rooms so.control c.loop-entry-test.true c.entry-item.is c.in_ok-perform.ensures.done;
      put = put_next g.T.Runs.rules first entries so.control c.loop-entry-test.true c.entry-item.is
          g.W.Sink.stream so.put c.perform.new.out c.perform.new.buffer c.in_ok-perform.ensures.put;
    }

pub returns : goal.returns
returns g c =
    let many = as_many g.T.Runs.rules c.args.control.now c.args.entries.now in
    let end = c.loop-entry-test.false in
    rw (take_all c.loop-entry.entry-index (all_replies g.T.Runs.rules c.args.control.now c.args.entries.now) (omega arith)) at c.loop-entry.invariant.put
