use Rattle.cdb_slice.proofs.Led.{AreLed}
use Rattle.cdb_slice.proofs.events.led_to.Given as goal

abbrev pub invariant-loop-i : goal.invariant-loop-i
invariant-loop-i l = AreLed l.run.history l.position l.i l.led.items
