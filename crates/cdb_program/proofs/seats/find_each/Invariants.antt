use Rattle.std.proofs.Common.{◌≡◌, take, vec_len}
use Rattle.cdb_program.specs.Known.{after_opening}
use Rattle.cdb_base.specs.Requests.{texts}
use Rattle.cdb_program.specs.SeatStreams.{AreOpenersOf}
use Rattle.cdb_program.proofs.seats.find_each.Given as goal

abbrev pub invariant-loop-name : goal.invariant-loop-name
invariant-loop-name g l = record {
  opened : g.F.Files.seen l.files ≡ after_opening (g.F.Files.seen l.initial.files) (texts (take l.name-index l.names));
  seats : AreOpenersOf g.F.Seat.Opener.opens (g.F.Files.seen l.initial.files) (texts (take l.name-index l.names)) l.openers.items;
  count : vec_len l.openers ≡ l.name-index;
}
