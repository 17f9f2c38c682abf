use Rattle.std.proofs.Common.{◌∙◌}
use Rattle.std.proofs.lemmas.Option.{none-some}
use Rattle.cdb_standing.specs.Tables.{entry_of}
use Rattle.cdb_standing.proofs.order.push_next.Goals as goal

pub returns-in-None : goal.returns-in-None
returns-in-None c = absurd (none-some (entry_of c.args.next.mark c.requires.at.0) (rw c.new-p.ensures.value at c.in-None.ensures ∙ c.requires.at.1))
