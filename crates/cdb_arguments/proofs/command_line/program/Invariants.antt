use Rattle.std.proofs.Common.{◌≡◌, take}
use Rattle.std.specs.Prelude.{fold}
use Rattle.clap.specs.Words.{app_of}
use Rattle.cdb_arguments.specs.CommandLine.{bare_program, with_named}
use Rattle.cdb_arguments.proofs.command_line.program.Given as goal

abbrev pub invariant-loop-subcommand : goal.invariant-loop-subcommand
invariant-loop-subcommand l = app_of l.command ≡ fold with_named bare_program (take l.subcommand-index l.subcommand-items)
