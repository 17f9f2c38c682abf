use Rattle.std.proofs.Common.{◌≡◌, List, replicate, true}
use Rattle.cdb_commands.specs.declared.command.Command.TheVariants.{Auto}
use Rattle.cdb_commands.specs.ReplyView.{ReplyView}
use Rattle.cdb_shared.specs.Sessions.{NoneDone}
use Rattle.cdb_shared.proofs.GateCalls.{Made}
use Rattle.cdb_shared.proofs.session.drive.Given as goal

abbrev pub invariant-loop-turn : goal.invariant-loop-turn
invariant-loop-turn g l = record {
  made : (replies : List ReplyView)
      × Made g.T.Runs.rules l.fn.seat l.seat (g.G.Gate.calls l.fn.gate) (g.G.Gate.calls l.gate) l.turn (replicate l.turn (Auto l.process)) replies
      × NoneDone replies;
  passes : g.G.Gate.passes l.fn.gate ≡ true → g.G.Gate.passes l.gate ≡ true;
}
