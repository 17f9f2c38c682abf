use Rattle.std.proofs.Common.{◌≡◌, ◌++◌, ◌<◌, suc, length, drop}
use Rattle.cdb_standing.specs.InOrder.{each_from}
use Rattle.cdb_standing.specs.Tables.{loss_at}
use Rattle.cdb_standing.proofs.order.push_losses.Given as goal

abbrev pub invariant-loop-i : goal.invariant-loop-i
invariant-loop-i l = record {
  rest : l.found.items ++ each_from (loss_at l.s l.m) (suc l.i) (drop l.i l.it.copies) ≡ l.initial.found.items ++ each_from (loss_at l.s l.m) 1 l.it.copies;
  long : 0 < l.i → length l.it.copies ≡ 9;
}
