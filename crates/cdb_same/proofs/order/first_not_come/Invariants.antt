use Rattle.std.proofs.Common.{◌≡◌, ℕ, ◌<◌, slice_get, Some}
use Rattle.cdb_base.specs.declared.name.StepId.{StepId}
use Rattle.cdb_same.specs.Come.{HasCome}
use Rattle.cdb_same.proofs.order.first_not_come.Given as goal

abbrev pub invariant-loop-name : goal.invariant-loop-name
invariant-loop-name l = (j : ℕ) (name : StepId) → j < l.name-index → slice_get l.names j ≡ Some name → HasCome l.counts name
