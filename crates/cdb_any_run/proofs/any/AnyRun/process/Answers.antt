use Rattle.std.proofs.Common.{◌≡◌, None, IfNone}
use Rattle.cdb_alpha.specs.Machine.{alpha_table}
use Rattle.cdb_leader.specs.Machine.{leader_table}
use Rattle.cdb_rules.specs.Rules.{shown_of}
use Rattle.cdb_any_run.proofs.Views.{none_shown}
use Rattle.cdb_any_run.proofs.Named.{in_leader, in_alpha}
use Rattle.cdb_any_run.proofs.any.AnyRun.process.Goals as goal

pub returns-in-Leader-clause-none : goal.returns-in-Leader-clause-none
returns-in-Leader-clause-none c =
    in_leader (λ rules run. IfNone c.process.result (rules.process run.history c.args.p ≡ None))
    c.self.invariant c.self.view_is c.in-Leader.is (none_shown (shown_of leader_table) c.process.result _ c.process.ensures.none)

pub returns-in-Alpha-clause-none : goal.returns-in-Alpha-clause-none
returns-in-Alpha-clause-none c =
    in_alpha (λ rules run. IfNone c.process-in-Alpha.result (rules.process run.history c.args.p ≡ None))
    c.self.invariant c.self.view_is c.in-Alpha.is (none_shown (shown_of alpha_table) c.process-in-Alpha.result _ c.process-in-Alpha.ensures.none)
