use Rattle.cdb_streams.specs.declared.sink.Failed.{Failed}
use Rattle.cdb_program.proofs.Seen.{stream_writes}
use Rattle.cdb_program.proofs.reports.report.Goals as goal

pub returns-in-Err : goal.returns-in-Err
returns-in-Err g c =
    let reported = c.write_text.result in
    rw c.in-Err.is (
      (reported, stream_writes g.E.Sink.stream (Unit {0}) Failed reported c.args.error.now c.write_text.new.error _ c.write_text.ensures),
      c.status_after.ensures,
    )
