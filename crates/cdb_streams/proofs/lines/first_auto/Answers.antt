use Rattle.std.proofs.Common.{rules}
use Rattle.std.proofs.lemmas.List.{take_rest}
use Rattle.cdb_streams.proofs.CutLines.{cut_auto}
use Rattle.cdb_streams.proofs.lines.first_auto.Goals as goal

pub returns-in-97-clause-lines : goal.returns-in-97-clause-lines
returns-in-97-clause-lines c = rw take_rest (cut_auto c.args.script.now c.in-97.len_at_least (search rules) c.if-digit-ne10.true (search rules))
