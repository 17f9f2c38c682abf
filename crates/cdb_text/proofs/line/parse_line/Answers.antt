use Rattle.cdb_text.specs.Grammar.{words_of}
use Rattle.cdb_text.proofs.Whole.{one_command, fault_of_line}
use Rattle.cdb_text.proofs.line.parse_line.Goals as goal

pub returns-in-Some-clause-command : goal.returns-in-Some-clause-command
returns-in-Some-clause-command c = λ command. rw c.in-Some.ensures at (one_command (words_of c.args.line.now) command)

pub returns-in-Some-clause-fault : goal.returns-in-Some-clause-fault
returns-in-Some-clause-fault c = rw c.in-Some.ensures at (fault_of_line c.args.line.now c.if-is_empty.ensures)

pub returns-clause-command : goal.returns-clause-command
returns-clause-command c = λ command. rw (c.command.ensures, c.of.ensures) (one_command (words_of c.args.line.now) command)

pub returns-clause-fault : goal.returns-clause-fault
returns-clause-fault c = rw (c.command.ensures, c.of.ensures) (fault_of_line c.args.line.now c.if-is_empty.ensures)
