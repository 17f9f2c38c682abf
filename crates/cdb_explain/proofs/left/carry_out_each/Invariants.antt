use Rattle.std.proofs.Common.{take}
use Rattle.cdb_control.specs.OneSeat.{HasCarriedOut}
use Rattle.cdb_explain.proofs.left.carry_out_each.Given as goal

abbrev pub invariant-loop-command : goal.invariant-loop-command
invariant-loop-command g l = HasCarriedOut l.initial.control.setup (take l.command-index l.commands) l.control
