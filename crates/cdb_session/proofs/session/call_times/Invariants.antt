use Rattle.std.proofs.Common.{◌≡◌, List, length}
use Rattle.cdb_commands.specs.ReplyView.{ReplyView}
use Rattle.cdb_session.specs.Styles.{Onward}
use Rattle.cdb_session.proofs.LineResponse.{HasRepeated}
use Rattle.cdb_session.proofs.session.call_times.Given as goal

abbrev pub invariant-loop : goal.invariant-loop
invariant-loop g l = record {
  so_far : (got : List ReplyView) × (length got ≡ l.counter)
      × HasRepeated l.place.seat l.command (g.C.Caller.part l.initial.caller) got (g.C.Caller.part l.caller) l.text.items;
  seats : g.C.Caller.seats l.caller ≡ g.C.Caller.seats l.initial.caller;
  later : Onward g.C.Caller.later l.initial.caller l.caller;
}
