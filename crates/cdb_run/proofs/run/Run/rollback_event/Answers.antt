use Rattle.cdb_rules.specs.EventRefs.{name_given}
use Rattle.cdb_rules.proofs.OfRun.{removed_of_run}
use Rattle.cdb_run.proofs.Found.{left_exact, leads_back}
use Rattle.cdb_run.proofs.run.Run.rollback_event.Goals as goal

pub returns-in_ok-roll_back-in-Ok-clause-rolled_back : goal.returns-in_ok-roll_back-in-Ok-clause-rolled_back
returns-in_ok-roll_back-in-Ok-clause-rolled_back g c =
    let did = rw c.in-Ok.ensures.0 at c.in_ok-roll_back-in-Ok.ensures in
    record { returns = did.number; after = did.after; list = did.list; err = tt; list_err = tt; memory = tt }

pub returns-in_ok-roll_back-in-Ok-clause-exact : goal.returns-in_ok-roll_back-in-Ok-clause-exact
returns-in_ok-roll_back-in-Ok-clause-exact g c =
    left_exact c.args.self.now _ (name_given c.args.event) (returns-in_ok-roll_back-in-Ok-clause-rolled_back g c).after

pub returns-in_ok-roll_back-in-Ok-clause-again : goal.returns-in_ok-roll_back-in-Ok-clause-again
returns-in_ok-roll_back-in-Ok-clause-again g c =
    leads_back c.args.self.now _ (name_given c.args.event) (returns-in_ok-roll_back-in-Ok-clause-rolled_back g c).after g.P.Process.table c.proper.ensures

pub returns-in_err-roll_back-in-Ok-clause-of_run : goal.returns-in_err-roll_back-in-Ok-clause-of_run
returns-in_err-roll_back-in-Ok-clause-of_run g c =
    removed_of_run g.P.Process.table c.args.self.now c.proper.ensures.ranges c.proper.ensures.in_order (name_given c.args.event)

pub returns-in_ok-roll_back-in-Ok-clause-of_run : goal.returns-in_ok-roll_back-in-Ok-clause-of_run
returns-in_ok-roll_back-in-Ok-clause-of_run g c =
    removed_of_run g.P.Process.table c.args.self.now c.proper.ensures.ranges c.proper.ensures.in_order (name_given c.args.event)
