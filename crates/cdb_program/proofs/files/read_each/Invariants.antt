use Rattle.std.proofs.Common.{take}
use Rattle.cdb_play.specs.Races.{bytes_of}
use Rattle.cdb_base.specs.Requests.{texts}
use Rattle.cdb_program.specs.FilesRead.{HasRead}
use Rattle.cdb_program.proofs.files.read_each.Given as goal

abbrev pub invariant-loop-name : goal.invariant-loop-name
invariant-loop-name g l = HasRead (g.F.Files.seen l.initial.files) (g.F.Files.seen l.files) (texts (take l.name-index l.names)) (bytes_of l.contents.items)
