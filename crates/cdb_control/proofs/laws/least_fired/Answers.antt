use Rattle.cdb_control.proofs.Least.{least_by_step, least_by_auto}
use Rattle.cdb_control.proofs.laws.least_fired.Goals as goal

pub returns-clause-by_step : goal.returns-clause-by_step
returns-clause-by_step c = λ rules setup seats journal seat p act. least_by_step rules setup seats seat p journal act

pub returns-clause-by_auto : goal.returns-clause-by_auto
returns-clause-by_auto c = λ rules setup seats journal seat p. least_by_auto rules setup seats seat p journal
