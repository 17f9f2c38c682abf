use Rattle.std.proofs.Common.{◌≡◌, false, take}
use Rattle.std.specs.Prelude.{fold}
use Rattle.clap.specs.Words.{app_of, new_app}
use Rattle.clap.specs.declared.builder.command.Command.TheViews.{out-Command}
use Rattle.cdb_arguments.specs.CommandLine.{name_of, with_argument}
use Rattle.cdb_arguments.proofs.command_line.command_of.Given as goal

abbrev pub invariant-loop-argument : goal.invariant-loop-argument
invariant-loop-argument l = record {
  app : app_of l.command ≡ fold with_argument (new_app (name_of l.subcommand)) (take l.argument-index l.argument-items);
  local : (out-Command l.command).has_globals ≡ false;
}
