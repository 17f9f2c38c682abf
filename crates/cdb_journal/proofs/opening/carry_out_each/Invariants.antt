use Rattle.std.proofs.Common.{◌≡◌, take}
use Rattle.cdb_journal.proofs.CarriedOut.{carried_out}
use Rattle.cdb_journal.proofs.opening.carry_out_each.Given as goal

abbrev pub invariant-loop-entry : goal.invariant-loop-entry
invariant-loop-entry g l = l.control ≡ carried_out l.initial.control (take l.entry-index l.entries)
