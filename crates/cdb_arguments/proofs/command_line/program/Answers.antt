use Rattle.std.proofs.lemmas.List.Sums.{fold_more}
use Rattle.cdb_arguments.specs.declared.command_line.Subcommand.TheVariants.{Play}
use Rattle.cdb_arguments.specs.CommandLine.{all_subcommands, bare_program, with_named}
use Rattle.cdb_arguments.proofs.command_line.program.Goals as goal

pub loop-subcommand-preserved : goal.loop-subcommand-preserved
loop-subcommand-preserved c =
    let index = c.loop-subcommand.subcommand-index in
    rw (
      fold_more with_named bare_program all_subcommands index Play c.loop-subcommand-test.true,
      ← c.loop-subcommand.invariant,
    )
    c.in_ok-command.ensures
