use Rattle.std.proofs.lemmas.Result.{err_from_is_err_and}
use Rattle.cdb_streams.specs.Endings.{Complete, play_ending}
use Rattle.cdb_play.specs.Transcripts.{Plays, RestsOnHeadline}
use Rattle.cdb_play.proofs.Ends.{play_wrote}
use Rattle.cdb_play.proofs.OnHeadline.{on_headline}
use Rattle.cdb_play.proofs.Transcripts.{plays_of}
use Rattle.cdb_streams.proofs.StreamEnds.{only_as, written_as}
use Rattle.cdb_play.proofs.plays.play.Goals as goal

pub returns-clause-wrote : goal.returns-clause-wrote
returns-clause-wrote g c =
    only_as g.W.Sink.stream Complete _ _ _ _
    (plays_of g.T.Runs.rules (g.R.Source.stream c.args.script.now) (g.R.Source.stream c.read_commands.new.script) c.in_ok-commands.commands.items
    c.in_ok-setup.ensures.found c.in_ok-commands.ensures.commands)
    (rw c.as_slice.ensures.value at c.in_ok-write_transcript.ensures)

pub returns-in_err-write_transcript-clause-wrote : goal.returns-in_err-write_transcript-clause-wrote
returns-in_err-write_transcript-clause-wrote g c =
    let p = err_from_is_err_and c.from_residual-in_err-write_transcript.result c.from_residual-in_err-write_transcript.ensures.1 in
    rw (p.1, p.2)
    (play_wrote g.W.Sink.stream (Unit {0}) _ c.in_err-write_transcript.field-0.0 _ _ _
    (plays_of g.T.Runs.rules (g.R.Source.stream c.args.script.now) (g.R.Source.stream c.read_commands.new.script) c.in_ok-commands.commands.items
    c.in_ok-setup.ensures.found c.in_ok-commands.ensures.commands)
    (rw c.as_slice.ensures.value at c.in_err-write_transcript.ensures))

pub returns-clause-headline : goal.returns-clause-headline
returns-clause-headline g c =
    let old = g.R.Source.stream c.args.script.now in
    let new = g.R.Source.stream c.read_commands.new.script in
    written_as g.W.Sink.stream Complete c.args.out.now c.write_transcript.new.out (Plays g.T.Runs.rules c.args.setup.now old new)
    (RestsOnHeadline g.T.Runs.rules g.T.Runs.same_state c.args.setup.now old new)
    (on_headline g.T.Runs.rules g.T.Runs.same_state c.headline.ensures) (returns-clause-wrote g c)

pub returns-in_err-write_transcript-clause-headline : goal.returns-in_err-write_transcript-clause-headline
returns-in_err-write_transcript-clause-headline g c =
    let old = g.R.Source.stream c.args.script.now in
    let new = g.R.Source.stream c.read_commands.new.script in
    written_as g.W.Sink.stream (play_ending c.from_residual-in_err-write_transcript.result) c.args.out.now c.write_transcript.new.out
    (Plays g.T.Runs.rules c.args.setup.now old new) (RestsOnHeadline g.T.Runs.rules g.T.Runs.same_state c.args.setup.now old new)
    (on_headline g.T.Runs.rules g.T.Runs.same_state c.headline.ensures) (returns-in_err-write_transcript-clause-wrote g c)
