use Rattle.std.proofs.Common.{◌≡◌, None}
use Rattle.std.specs.Prelude.{IfSome, IfNone}
use Rattle.cdb_standing.specs.Gathered.{IsNext, NoneIsLeft}
use Rattle.cdb_standing.proofs.order.earliest.Given as goal

abbrev pub invariant-loop-i : goal.invariant-loop-i
invariant-loop-i l = record {
  left : IfSome l.found (IsNext l.tables l.from);
  none : IfNone l.found ((l.fn.other ≡ None) × NoneIsLeft l.tables l.from l.start l.i);
}
