use Rattle.std.proofs.Common.{rules}
use Rattle.cdb_session.proofs.MovesInOrder.{is_no_end, write_asks_not, write_saves_none}
use Rattle.cdb_session.proofs.streams.StreamsConsole.write.Goals as goal

pub returns-clause-moves : goal.returns-clause-moves
returns-clause-moves g c = record {
  moves = tt;
  left = search rules;
  all = is_no_end _ (write_asks_not c.write.result c.args.piece.now);
  held = search rules;
  saved = write_saves_none _ _ c.write.result c.args.piece.now;
  failed_reads = search rules;
  failed_writes = search rules;
}
