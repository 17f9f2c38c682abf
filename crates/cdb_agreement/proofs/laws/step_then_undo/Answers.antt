use Rattle.cdb_rules.proofs.Undo.{last_undone}
use Rattle.cdb_agreement.proofs.laws.step_then_undo.Goals as goal

pub returns-clause-undone : goal.returns-clause-undone
returns-clause-undone c =
    λ n history name there new event its_name. rw (← its_name) (last_undone n _ _ (rw (← its_name) at there) (rw (← its_name) at new))
