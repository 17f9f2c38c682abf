-- The two algorithms, each as a machine at a setup, and the rules of a run by the algorithm that its setup names.
use Rattle.cdb_alpha.specs.LocalState.{LocalState as AlphaState}
use Rattle.cdb_alpha.specs.Machine.{alpha_table}
use Rattle.cdb_leader.specs.LocalState.{LocalState as LeaderState}
use Rattle.cdb_leader.specs.Machine.{leader_table}
use Rattle.cdb_rules.specs.Machines.{machine_of}
use Rattle.cdb_rules.specs.Rules.{Rules, rules_of}
use Rattle.cdb_rules.specs.State.{Machine}
use Rattle.cdb_setup.specs.Parts.{Parts}
use Rattle.cdb_setup.specs.declared.setup.Algorithm.{Algorithm}
use Rattle.cdb_setup.specs.declared.setup.Algorithm.TheVariants.{Leader, Alpha}

abbrev pub leader_machine : Parts → Machine LeaderState
leader_machine setup = machine_of leader_table setup

abbrev pub alpha_machine : Parts → Machine AlphaState
alpha_machine setup = machine_of alpha_table setup

abbrev pub rules_by : Algorithm → Parts → Rules
rules_by Leader setup = rules_of leader_table setup
rules_by Alpha setup = rules_of alpha_table setup

-- the rules of a run of the setup
abbrev pub rules : Parts → Rules
rules setup = rules_by setup.algorithm setup
