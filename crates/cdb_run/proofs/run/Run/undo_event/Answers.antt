use Rattle.std.proofs.Common.{rules, ◌≡◌}
use Rattle.cdb_rules.specs.EventRefs.{name_given}
use Rattle.cdb_rules.specs.Runs.{result_of_undo}
use Rattle.cdb_run.proofs.Found.{undo_ok, undo_done}
use Rattle.cdb_run.proofs.run.Run.undo_event.Goals as goal

pub returns-in_err-name-clause-free : goal.returns-in_err-name-clause-free
returns-in_err-name-clause-free g c =
    let run = c.args.self.now in
    let is : c.from_residual.result ≡ result_of_undo run (name_given c.args.event) = search rules in
    undo_ok g.P.Process.table run c.proper.ensures (name_given c.args.event) c.from_residual.result is

pub returns : goal.returns
returns g c =
    let found = c.in_ok-name.ensures in
    let done =
    undo_done g.P.Process.table c.args.self.now c.proper.ensures (name_given c.args.event) found.1 c.restore.result c.restore.new.self
    c.restore.ensures.setup (rw found.0 at c.restore.ensures.event) in
    record { returns = done.returns; after = done.after; free = done.free; back = done.back; of_run = done.of_run }
