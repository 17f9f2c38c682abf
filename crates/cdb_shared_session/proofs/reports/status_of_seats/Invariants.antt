use Rattle.std.proofs.Common.{◌≡◌, drop}
use Rattle.cdb_shared_session.specs.Reports.{outcomes, seats_status}
use Rattle.cdb_shared_session.proofs.reports.status_of_seats.Given as goal

abbrev pub invariant-loop-its : goal.invariant-loop-its
invariant-loop-its g l = seats_status (outcomes l.finished) ≡ seats_status (outcomes (drop l.its-index l.finished))
