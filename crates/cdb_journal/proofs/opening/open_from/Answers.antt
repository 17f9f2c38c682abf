use Rattle.cdb_journal.proofs.RepliesToSeats.{read_few}
use Rattle.cdb_journal.proofs.opening.open_from.Goals as goal

pub open_on-requires-clause-few : goal.open_on-requires-clause-few
open_on-requires-clause-few g c =
    rw c.as_slice.ensures.value (read_few c.in_ok-entries.entries.items c.args.journal.now c.in_ok-entries.ensures.entries.0)
