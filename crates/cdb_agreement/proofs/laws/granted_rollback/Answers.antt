use Rattle.cdb_rules.proofs.Undo.{rolled_back_where_ok, rolled_back_back}
use Rattle.cdb_agreement.proofs.laws.granted_rollback.Goals as goal

pub returns-clause-valid : goal.returns-clause-valid
returns-clause-valid g c = λ machine n history name removed left returned valid. (rolled_back_back machine n history name _ _ returned valid).0

pub returns-clause-again : goal.returns-clause-again
returns-clause-again g c = λ machine n history name removed left returned valid. (rolled_back_back machine n history name _ _ returned valid).1

pub returns-clause-exact : goal.returns-clause-exact
returns-clause-exact g c = rolled_back_where_ok
