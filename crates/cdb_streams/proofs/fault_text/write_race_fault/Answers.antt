use Rattle.cdb_streams.proofs.fault_text.write_race_fault.Goals as goal

pub returns-in-JournalFull : goal.returns-in-JournalFull
returns-in-JournalFull g c = rw c.in-JournalFull.is c.write_words.ensures
