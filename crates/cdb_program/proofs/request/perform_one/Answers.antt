use Rattle.cdb_base.specs.Requests.{asked_for}
use Rattle.cdb_program.proofs.Reported.{does_but_error}
use Rattle.cdb_program.proofs.request.perform_one.Goals as goal

pub returns-clause-done : goal.returns-clause-done
returns-clause-done g c =
    let carried = c.carry_out-outcome.ensures in (
      c.carry_out-outcome.result,
      does_but_error (asked_for c.args.request.now) c.args.world.now _ _ _ (rw (← c.world.view_is) at carried.does),
      rw (← carried.error, ← c.world.view_is) c.report.ensures,
    )
