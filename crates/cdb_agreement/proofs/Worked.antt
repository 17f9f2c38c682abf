-- Short runs, computed.
use Rattle.std.proofs.Common.{◌≡◌, [], ◌∷◌, ◌++◌, Some, refl}
use Rattle.std.specs.FinSet as set
use Rattle.cdb_base.specs.Processes.{all_processes}
use Rattle.cdb_message.specs.Names.{name_cmp, copy_cmp}
use Rattle.cdb_message.proofs.Sets.{name_cmp_total}
use Rattle.cdb_agreement.specs.WorkedRuns.{leader_steps, leader_decisions, alpha_steps, alpha_decisions}

pub leader : leader_decisions (7 ∷ []) (leader_steps 1) ≡ Some ((1, 7) ∷ [])
unfolding all_processes
leader = simp (set.contains-insert name_cmp_total, set.contains-empty name_cmp, set.contains-empty copy_cmp)

pub two_values : leader_decisions (5 ∷ 6 ∷ []) (leader_steps 1 ++ leader_steps 2) ≡ Some ((1, 5) ∷ (2, 6) ∷ [])
unfolding all_processes
two_values = simp (set.contains-insert name_cmp_total, set.contains-empty name_cmp, set.contains-empty copy_cmp)

pub alpha : alpha_decisions (7 ∷ []) alpha_steps ≡ Some ((1, 7) ∷ [])
alpha = refl
