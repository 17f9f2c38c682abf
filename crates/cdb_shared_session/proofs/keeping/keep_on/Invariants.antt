use Rattle.std.specs.Prelude.{Ok}
use Rattle.cdb_shared.specs.Seats.{IsLater}
use Rattle.cdb_shared_session.specs.KeptOutcomes.{Keeps}
use Rattle.cdb_shared_session.proofs.keeping.keep_on.Given as goal

abbrev pub invariant-loop : goal.invariant-loop
invariant-loop g l = record {
  later : IsLater l.initial.watch l.watch;
  kept : Keeps g.J.Sink.stream l.initial.file l.file l.first (Ok l.count) l.watch.seen;
}
