use Rattle.cdb_program.proofs.Framed.{one_more_frame}
use Rattle.cdb_program.proofs.frames.write_frames.Goals as goal

pub loop-i-preserved : goal.loop-i-preserved
loop-i-preserved g c =
    one_more_frame (g.F.Files.seen c.args.files.now) _ c.args.folder.now c.args.frames.now c.loop-i.i c.loop-i.invariant _ c.in_default-write_frame.ensures.ok
