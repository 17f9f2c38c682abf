use Rattle.cdb_base.specs.Event.{event_name}
use Rattle.cdb_rules.proofs.Flagged.{IsFlagging}
use Rattle.cdb_rules.proofs.trace.Trace.flag_past.Given as goal

abbrev pub invariant-loop-event : goal.invariant-loop-event
invariant-loop-event l = IsFlagging l.numbers (event_name l.last) l.events l.event-index l.flags.items
