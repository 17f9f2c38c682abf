use Rattle.std.proofs.Common.{◌+◌, ◌-◌, ◌≤◌, [], length}
use Rattle.cdb_setup.specs.Format.{longest}
use Rattle.cdb_session.specs.Lines.{seen_by}
use Rattle.cdb_session.specs.Styles.{MaySit, Onward}
use Rattle.cdb_session.specs.Unfinished.{Arrives}
use Rattle.cdb_session.proofs.repl.run_from_first.Given as goal

abbrev pub invariant-loop-read : goal.invariant-loop-read
invariant-loop-read g l = record {
  few : length l.unfinished.items ≤ longest + 1;
  bound : l.read ≤ 9223372036854779904;
  lines : l.session.place.lines ≤ l.read;
  sits : MaySit l.style (g.C.Caller.seats l.session.caller) l.session.place.seat;
  later : Onward g.C.Caller.later l.fn.session.caller l.session.caller;
  arrives : Arrives g.C.Caller.answers l.style (g.C.Caller.part l.fn.session.caller) (g.T.Console.known l.fn.console)
      (g.T.Console.known l.console) (seen_by g.C.Caller.part l.session) l.unfinished.items [] l.read;
}

abbrev pub decreases-loop-read : goal.decreases-loop-read
decreases-loop-read g l = 9223372036854775808 - l.read
