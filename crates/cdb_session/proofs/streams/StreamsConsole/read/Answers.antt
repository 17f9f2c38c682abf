use Rattle.std.proofs.Common.{rules, ◌<◌, length}
use Rattle.cdb_session.proofs.MovesInOrder.{read_saves_none, read_to_end}
use Rattle.cdb_session.proofs.streams.StreamsConsole.read.Goals as goal

pub returns-clause-moves : goal.returns-clause-moves
returns-clause-moves g c =
    let some : 0 < length c.read.new.buffer = search rules in
    record {
      moves = tt;
      left = search rules;
      all =
          read_to_end _ (g.R.Source.stream c.args.self.now.input).bytes (g.R.Source.stream c.read.new.self).bytes
          c.read.result c.read.new.buffer some c.read.ensures.within c.read.ensures.bytes;
      held = search rules;
      saved = read_saves_none _ _ c.read.result c.read.new.buffer;
      failed_reads = search rules;
      failed_writes = search rules;
    }
