use Rattle.cdb_text.proofs.Entries.{entry_of_line, fault_of_line}
use Rattle.cdb_text.proofs.entry.parse_entry.Goals as goal

pub returns-clause-entry : goal.returns-clause-entry
returns-clause-entry c = λ seat command. rw (c.entry.ensures, c.of.ensures) (entry_of_line c.args.line.now seat command)

pub returns-clause-fault : goal.returns-clause-fault
returns-clause-fault c = rw (c.entry.ensures, c.of.ensures) (fault_of_line c.args.line.now c.if-is_empty.ensures)
