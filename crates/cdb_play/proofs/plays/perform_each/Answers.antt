use Rattle.std.proofs.Common.{take, arith, take_all}
use Rattle.std.proofs.lemmas.Result.{err_from_is_err_and}
use Rattle.cdb_streams.proofs.PiecesPut.{put_nothing, put_more, cut_short}
use Rattle.cdb_play.proofs.Items.{parted_at, taken_at}
use Rattle.cdb_play.proofs.Transcripts.{no_texts, one_reply, parted_transcript}
use Rattle.cdb_control.proofs.OneSeat.{one_command}
use Rattle.cdb_play.proofs.plays.perform_each.Goals as goal

pub loop-command-init : goal.loop-command-init
loop-command-init g c = record { control = c.requires.new; put = rw no_texts (put_nothing _ _ _) }

pub returns-in_err-perform : goal.returns-in_err-perform
returns-in_err-perform g c =
    let p = err_from_is_err_and c.from_residual.result c.from_residual.ensures.1 in
    let commands = c.args.commands.now in
    let i = c.loop-command.command-index in
    let so = c.loop-command.invariant in
    rw (p.1, p.2, parted_at commands i c.command-item.is c.loop-command-test.true)
    (cut_short g.W.Sink.stream (Unit {0}) c.in_err-perform.field-0.0 _ _ _ _ _ _ _ _ _ _ so.put
    (parted_transcript g.T.Runs.rules c.args.control.now.setup (take i commands) c.command-item.result c.loop-command.control so.control _)
    c.in_err-perform.ensures.put)

pub loop-command-preserved : goal.loop-command-preserved
loop-command-preserved g c =
    let rules_of = g.T.Runs.rules in
    let setup = c.args.control.now.setup in
    let done = take c.loop-command.command-index c.args.commands.now in
    let control = c.loop-command.control in
    let so = c.loop-command.invariant in
    let more = taken_at _ c.loop-command.command-index c.command-item.is c.loop-command-test.true in
    record {
      control = rw more (one_command rules_of setup done c.command-item.result control so.control c.perform.new.control c.in_ok-perform.ensures.done);
      put =
          rw (more, one_reply rules_of setup done c.command-item.result control so.control)
          (put_more g.W.Sink.stream _ _ _ _ _ _ _ _ so.put c.in_ok-perform.ensures.put);
    }

pub returns : goal.returns
returns g c =
    let whole = take_all c.loop-command.command-index c.args.commands.now (search (c.loop-command-test.false, arith)) in
    rw whole at c.loop-command.invariant.put
