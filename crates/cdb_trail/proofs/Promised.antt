-- What the laws promise of both algorithms.
use Rattle.std.proofs.Common.{refl}
use Rattle.cdb_agreement.specs.Algorithms.{leader_machine, alpha_machine}
use Rattle.cdb_alpha.specs.Machine.{alpha_table}
use Rattle.cdb_leader.specs.Machine.{leader_table}
use Rattle.cdb_setup.specs.Parts.{Parts}
use Rattle.cdb_trail.specs.AlphaFlow.{alpha_flows}
use Rattle.cdb_trail.specs.Flow.{FlowsAreTrue}
use Rattle.cdb_trail.specs.LeaderFlow.{leader_flows}
use Rattle.cdb_trail.specs.Trails.{EachValueHasATrail, EachDecisionHasATrail, TrailsAreUnique}
use Rattle.cdb_trail.proofs.AlphaTrue as alpha
use Rattle.cdb_trail.proofs.LeaderTrue as leader
use Rattle.cdb_trail.proofs.RunFlows.{are_true}
use Rattle.cdb_trail.proofs.Trails.{each_value_has_a_trail, each_decision_has_a_trail, trails_are_unique}

pub leader_true : (setup : Parts) → FlowsAreTrue (leader_machine setup) leader_flows setup.inputs
leader_true setup = are_true leader_table leader_flows (λ s. Unit {0}) setup leader.leader_flows_are_true

pub alpha_true : (setup : Parts) → FlowsAreTrue (alpha_machine setup) alpha_flows setup.inputs
alpha_true setup = are_true alpha_table alpha_flows alpha.DecidedLast setup alpha.alpha_flows_are_true

pub leader_values : (setup : Parts) → EachValueHasATrail (leader_machine setup) leader_flows setup.inputs
leader_values setup = each_value_has_a_trail (leader_machine setup) leader_flows setup.inputs (leader_true setup) leader.slots_apart

pub alpha_values : (setup : Parts) → EachValueHasATrail (alpha_machine setup) alpha_flows setup.inputs
alpha_values setup = each_value_has_a_trail (alpha_machine setup) alpha_flows setup.inputs (alpha_true setup) alpha.slots_apart

pub leader_trails : (setup : Parts) → EachDecisionHasATrail (leader_machine setup) leader_flows setup.inputs leader_table.decision
leader_trails setup =
    each_decision_has_a_trail (leader_machine setup) leader_flows setup.inputs
    (leader_true setup) leader.slots_apart leader_table.decision (λ s. refl)

pub alpha_trails : (setup : Parts) → EachDecisionHasATrail (alpha_machine setup) alpha_flows setup.inputs alpha_table.decision
alpha_trails setup =
    each_decision_has_a_trail (alpha_machine setup) alpha_flows setup.inputs (alpha_true setup) alpha.slots_apart alpha_table.decision (λ s. refl)

pub leader_unique : (setup : Parts) → TrailsAreUnique (leader_machine setup) leader_flows setup.inputs
leader_unique setup = trails_are_unique (leader_machine setup) leader_flows setup.inputs (leader_true setup) leader.slots_apart

pub alpha_unique : (setup : Parts) → TrailsAreUnique (alpha_machine setup) alpha_flows setup.inputs
alpha_unique setup = trails_are_unique (alpha_machine setup) alpha_flows setup.inputs (alpha_true setup) alpha.slots_apart
