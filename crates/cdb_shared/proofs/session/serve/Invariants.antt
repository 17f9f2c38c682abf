use Rattle.std.proofs.Common.{◌≡◌, ◌≤◌, map, take, true, vec_len}
use Rattle.cdb_commands.specs.ReplyView.{reply_view}
use Rattle.cdb_shared.proofs.GateCalls.{Made}
use Rattle.cdb_shared.proofs.session.serve.Given as goal

abbrev pub invariant-loop-command : goal.invariant-loop-command
invariant-loop-command g l = record {
  made : Made g.T.Runs.rules l.fn.seat l.seat (g.G.Gate.calls l.fn.gate) (g.G.Gate.calls l.gate) l.number
      (take l.command-index l.commands) (map reply_view l.replies.items);
  count : vec_len l.replies ≡ l.command-index;
  number : l.number ≡ l.command-index;
  limit : l.number ≤ 999999;
  passes : g.G.Gate.passes l.fn.gate ≡ true → g.G.Gate.passes l.gate ≡ true;
}
