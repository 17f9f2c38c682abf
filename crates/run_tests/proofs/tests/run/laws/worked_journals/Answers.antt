use Rattle.std.proofs.Common.{refl}
use Rattle.cdb_control.specs.Commands.{outcome}
use Rattle.run_tests.proofs.tests.run.laws.worked_journals.Goals as goal

pub returns-clause-undone_for_2 : goal.returns-clause-undone_for_2
unfolding outcome
returns-clause-undone_for_2 c = refl

pub returns-clause-undone_for_1 : goal.returns-clause-undone_for_1
unfolding outcome
returns-clause-undone_for_1 c = refl

pub returns-clause-rolled_back_for_2 : goal.returns-clause-rolled_back_for_2
unfolding outcome
returns-clause-rolled_back_for_2 c = refl

pub returns-clause-rolled_back_for_1 : goal.returns-clause-rolled_back_for_1
unfolding outcome
returns-clause-rolled_back_for_1 c = refl
