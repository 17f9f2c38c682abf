use Rattle.std.proofs.Common.{length}
use Rattle.cdb_play.proofs.races.text.+push_seats.Given as goal

abbrev pub decreases-push_seats : goal.decreases-push_seats
decreases-push_seats l = length l.seats.now
