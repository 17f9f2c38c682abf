use Rattle.std.proofs.Common.{refl}
use Rattle.cdb_program.proofs.Seen.{stream_written, text_seen}
use Rattle.cdb_program.proofs.plays.play_input.Goals as goal

pub returns-clause-does : goal.returns-clause-does
returns-clause-does g c =
    let said = c.play-played.ensures in
    rw (← c.world.view_is) (
      refl,
      (
        c.play-played.result,
        c.of_play.ensures,
        record {
          text =
              text_seen g.I.Source.stream g.O.Sink.stream (λ fault. fault) c.play-played.result _ _ _ _ _ _ _
              said.wrote said.fault said.unread said.read;
          headline = stream_written g.O.Sink.stream _ _ _ _ said.headline;
        },
      ),
    )
