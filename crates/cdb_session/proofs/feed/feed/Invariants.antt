use Rattle.std.proofs.Common.{◌+◌, ◌≤◌, ℕ, length}
use Rattle.cdb_setup.specs.Format.{longest}
use Rattle.cdb_session.specs.Lines.{seen_by}
use Rattle.cdb_session.specs.Moves.{Known}
use Rattle.cdb_session.specs.Styles.{MaySit, Onward, Part}
use Rattle.cdb_session.specs.Unfinished.{Arrives}
use Rattle.cdb_session.proofs.feed.feed.Given as goal

abbrev pub invariant-loop-line : goal.invariant-loop-line
invariant-loop-line g l = record {
  few : length l.unfinished.items ≤ longest + 1;
  lines : l.session.place.lines + length l.rest ≤ l.initial.session.place.lines + length l.bytes;
  sits : MaySit l.style (g.C.Caller.seats l.session.caller) l.session.place.seat;
  later : Onward g.C.Caller.later l.initial.session.caller l.session.caller;
  goes : (begun : Part) (first : Known) (read : ℕ)
      → Arrives g.C.Caller.answers l.style begun first (g.T.Console.known l.initial.console) (seen_by g.C.Caller.part l.initial.session)
      l.initial.unfinished.items l.bytes read
      → Arrives g.C.Caller.answers l.style begun first (g.T.Console.known l.console) (seen_by g.C.Caller.part l.session) l.unfinished.items l.rest read;
}

abbrev pub decreases-loop-line : goal.decreases-loop-line
decreases-loop-line g l = length l.rest
