-- The commands that name an event.
use Rattle.std.specs.Prelude.{ℕ}
use Rattle.cdb_commands.specs.declared.command.Command.{Command}
use Rattle.cdb_commands.specs.declared.command.Command.TheVariants as command
use Rattle.cdb_text.specs.declared.verb.Verb.{Verb}
use Rattle.cdb_text.specs.declared.verb.Verb.TheVariants.{Undo, Rollback, Why}

abbrev pub on_step : Verb → ℕ → ℕ → Command
on_step Undo = command.Undo
on_step Rollback = command.Rollback
on_step Why = command.Why

abbrev pub on_loss : Verb → ℕ → ℕ → ℕ → Command
on_loss Undo = command.UndoLost
on_loss Rollback = command.RollbackLost
on_loss Why = command.WhyLost
