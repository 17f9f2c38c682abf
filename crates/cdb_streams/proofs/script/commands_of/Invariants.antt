use Rattle.std.proofs.Common.{length}
use Rattle.cdb_streams.proofs.LinesRead.{IsUnderWay}
use Rattle.cdb_streams.proofs.script.commands_of.Given as goal

abbrev pub invariant-loop-rest : goal.invariant-loop-rest
invariant-loop-rest l = IsUnderWay l.script l.commands.items l.rest

abbrev pub decreases-loop-rest : goal.decreases-loop-rest
decreases-loop-rest l = length l.rest
