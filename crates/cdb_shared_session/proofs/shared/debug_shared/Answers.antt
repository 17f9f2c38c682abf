use Rattle.std.proofs.Common.{◌≡◌, ◌≤◌, ap, arith, length, vec_len}
use Rattle.std.proofs.lemmas.Result.{err_from_is_err_and}
use Rattle.cdb_base.specs.Limits.{MAX_SEATS}
use Rattle.cdb_shared_session.proofs.SetupFaults.{threads_failed}
use Rattle.cdb_shared_session.proofs.Writable.{opened_writable}
use Rattle.cdb_shared_session.proofs.shared.debug_shared.Goals as goal

pub returns-in-Err-clause-fault : goal.returns-in-Err-clause-fault
returns-in-Err-clause-fault g c = rw (← c.len-count.ensures) c.in-Err.ensures.fault

pub returns-in_err-control-clause-fault : goal.returns-in_err-control-clause-fault
returns-in_err-control-clause-fault g c =
    let p = err_from_is_err_and c.from_residual.result c.from_residual.ensures.1 in
    rw (p.1, p.2)
    (threads_failed c.args.setup.now c.args.from.now (vec_len c.args.openers) c.in-Ok.ensures.begun.0 c.in_err-control.field-0.0
    c.in-Ok.ensures.begun.1 c.in_err-control.ensures.fault)

pub write_failures-requires : goal.write_failures-requires
write_failures-requires g c = omega (arith, c.requires.fits, ap length c.as_slice-2.ensures.value, c.in_ok-control.ensures.sessions.many, c.args.openers.ok.0)

pub returns-clause-sessions : goal.returns-clause-sessions
returns-clause-sessions g c =
    let written = c.write_journal-written.result in
    let many : c.len-count.result ≡ length c.args.openers.items = omega (arith, c.len-count.ensures, c.args.openers.ok.0) in
    let few : c.len-count.result ≤ MAX_SEATS = omega (arith, c.requires.fits, c.len-count.ensures) in
    record {
      setup = c.in-Ok.ensures.begun.0;
      encodes = c.in-Ok.ensures.begun.1;
      begun = c.in-Ok.begun.0;
      goes_on = rw (← many) c.in-Ok.ensures.begun.2;
      control = c.in_ok-control.control;
      finished = c.in_ok-control.finished.items;
      sessions = c.in_ok-control.ensures.sessions;
      writable =
          c.in_ok-control.ensures.writable
          (opened_writable c.in-Ok.ensures.begun.0 c.len-count.result c.args.from.now c.in-Ok.begun.0 few c.in-Ok.ensures.begun.2);
      keeps = c.in_ok-control.ensures.kept;
      written = written;
      journal = rw (← c.journal.ensures.entries) c.write_journal-written.ensures;
      reported = c.write_failures.result;
      lines = rw (← c.outcome_of-outcome.ensures, ← c.as_slice-2.ensures.value) c.write_failures.ensures;
      status_is = rw (← c.outcome_of-outcome.ensures, ← c.as_slice-3.ensures.value) c.status_after-status.ensures;
    }
