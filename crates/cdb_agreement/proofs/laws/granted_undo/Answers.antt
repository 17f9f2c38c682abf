use Rattle.cdb_rules.proofs.Undo.{undone_free, undone_back, free_undone, needed_refused, new_undone}
use Rattle.cdb_agreement.proofs.laws.granted_undo.Goals as goal

pub returns-clause-undone : goal.returns-clause-undone
returns-clause-undone g c = free_undone

pub returns-clause-needed : goal.returns-clause-needed
returns-clause-needed g c = needed_refused

pub returns-clause-no_step : goal.returns-clause-no_step
returns-clause-no_step g c = new_undone

pub returns-clause-valid : goal.returns-clause-valid
returns-clause-valid g c = λ machine n history name event left returned valid. (undone_back machine n history name _ _ returned valid).0

pub returns-clause-again : goal.returns-clause-again
returns-clause-again g c = λ machine n history name event left returned valid. (undone_back machine n history name _ _ returned valid).1

pub returns-clause-free : goal.returns-clause-free
returns-clause-free g c = undone_free
