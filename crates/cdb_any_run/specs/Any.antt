-- What a contract sees of a run by its machine.
use Rattle.std.specs.Prelude.{◌≡◌}
use Rattle.cdb_rules.specs.RunView.{RunView}
use Rattle.cdb_any_run.specs.declared.any.ByMachine.{ByMachine}
use Rattle.cdb_any_run.specs.declared.any.ByMachine.TheVariants as run_of
use Rattle.cdb_setup.specs.declared.setup.Algorithm.TheVariants.{Leader, Alpha}

-- its setup and its standing events
abbrev pub run_view : ByMachine → RunView
run_view (run_of.Leader run) = run
run_view (run_of.Alpha run) = run

-- it has the machine of the algorithm that its setup names
abbrev pub IsTrueToSetup : ByMachine → Type 0
IsTrueToSetup (run_of.Leader run) = run.setup.algorithm ≡ Leader
IsTrueToSetup (run_of.Alpha run) = run.setup.algorithm ≡ Alpha
