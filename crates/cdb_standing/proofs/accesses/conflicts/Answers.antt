use Rattle.std.proofs.Common.{arith}
use Rattle.cdb_standing.proofs.Links.{conflicts_are, with_read, read_with, with_write, write_with}
use Rattle.cdb_standing.proofs.accesses.conflicts.Goals as goal

pub returns-in-Read : goal.returns-in-Read
returns-in-Read c =
    let x = c.in-Read.register in
    rw (c.in-Read.is, c.list_of.ensures, c.number_of.ensures.value)
    (conflicts_are c.requires.sound c.requires.writes c.args.q _ (omega arith) (omega arith) (omega arith) (with_read x) (read_with x))

pub returns-in-Write : goal.returns-in-Write
returns-in-Write c =
    let x = c.in-Write.register in
    rw (c.in-Write.is, c.list_of-in-Write.ensures, c.number_of-in-Write.ensures.value)
    (conflicts_are c.requires.sound c.requires.accesses c.args.q _ (omega arith) (omega arith) (omega arith) (with_write x) (write_with x))
