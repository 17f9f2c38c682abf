use Rattle.cdb_journal.proofs.Again.{replies_to_each_seat}
use Rattle.cdb_journal.proofs.laws.each_seat_gets_its_replies.Goals as goal

pub returns : goal.returns
returns c = replies_to_each_seat
