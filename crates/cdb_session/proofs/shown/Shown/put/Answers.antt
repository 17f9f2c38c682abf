use Rattle.std.proofs.Common.{true, false}
use Rattle.cdb_session.proofs.MovesInOrder.{file_and_text}
use Rattle.cdb_session.proofs.shown.Shown.put.Goals as goal

pub returns-in-Ok : goal.returns-in-Ok
returns-in-Ok g c =
    let known = g.T.Console.known in (
      true,
      rw c.in-Some.is
          (file_and_text _ _ c.write_all-in-Ok.result (known c.args.console.now) (known c.save.new.self) (known c.write_all-in-Ok.new.console) _
          c.args.self.now.text.items (rw c.as_slice-in-Some.ensures.value at c.in-Ok.ensures.moves)
          (rw c.as_slice-in-Ok.ensures.value at c.write_all-in-Ok.ensures)),
    )

pub returns-in-Err : goal.returns-in-Err
returns-in-Err g c =
    let known = g.T.Console.known in (
      false,
      rw c.in-Some.is
          (file_and_text _ _ c.write_all-in-Err.result (known c.args.console.now) (known c.save.new.self) (known c.write_all-in-Err.new.console) _
          c.args.self.now.failed.items (rw c.as_slice-in-Some.ensures.value at c.in-Err.ensures.moves)
          (rw c.as_slice-in-Err.ensures.value at c.write_all-in-Err.ensures)),
    )
