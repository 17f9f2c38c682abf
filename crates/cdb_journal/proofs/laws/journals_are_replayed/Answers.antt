use Rattle.cdb_journal.proofs.Again.{is_read_back, is_replied_again}
use Rattle.cdb_journal.proofs.laws.journals_are_replayed.Goals as goal

pub returns-clause-read_back : goal.returns-clause-read_back
returns-clause-read_back c = is_read_back

pub returns-clause-replied_again : goal.returns-clause-replied_again
returns-clause-replied_again c = is_replied_again
