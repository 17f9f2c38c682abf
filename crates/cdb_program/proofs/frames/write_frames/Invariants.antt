use Rattle.std.proofs.Common.{◌≡◌}
use Rattle.cdb_program.specs.FrameFiles.{after_frames}
use Rattle.cdb_program.proofs.frames.write_frames.Given as goal

abbrev pub invariant-loop-i : goal.invariant-loop-i
invariant-loop-i g l = g.F.Files.seen l.files ≡ after_frames (g.F.Files.seen l.fn.files) l.folder l.frames l.i
