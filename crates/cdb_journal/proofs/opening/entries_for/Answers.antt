use Rattle.std.proofs.Common.{◌≡◌, None, rules, tests}
use Rattle.cdb_journal.specs.OpenedFrom.{first_beyond}
use Rattle.cdb_journal.proofs.CarriedOut.{of_seats}
use Rattle.cdb_journal.proofs.RepliesToSeats.{read_seats}
use Rattle.cdb_journal.proofs.opening.entries_for.Goals as goal

pub returns-in-None-clause-entries : goal.returns-in-None-clause-entries
returns-in-None-clause-entries c =
    let its = c.in_ok-entries.ensures.entries in
    let none : first_beyond c.args.seats c.in_ok-entries.entries.items ≡ None = search (rules, tests) in
    (its, of_seats c.args.seats c.in_ok-entries.entries.items (read_seats c.in_ok-entries.entries.items c.args.text.now its) none)
