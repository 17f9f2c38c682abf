use Rattle.std.proofs.Common.{◌≡◌, map, take}
use Rattle.cdb_slice.specs.Scripts.{command_for}
use Rattle.cdb_slice.proofs.script.commands_for.Given as goal

abbrev pub invariant-loop-event : goal.invariant-loop-event
invariant-loop-event l = l.commands.items ≡ map command_for (take l.event-index l.events)
