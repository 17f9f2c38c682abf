use Rattle.cdb_rules.proofs.ValidHistories.{names_differ}
use Rattle.cdb_rules.proofs.Undo.{valid_named}
use Rattle.cdb_agreement.proofs.laws.names.Goals as goal

pub returns-clause-apart : goal.returns-clause-apart
returns-clause-apart g c = names_differ

pub returns-clause-named : goal.returns-clause-named
returns-clause-named g c = λ machine. valid_named machine
