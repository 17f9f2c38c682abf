-- How the lines of the commands are read, from the left.
use Rattle.std.specs.Prelude.{ℕ, nat_lt, List, None, Some, Result, Ok, Err, if◌then◌else◌}
use Rattle.cdb_base.specs.Limits.{MAX_SEATS}
use Rattle.cdb_base.specs.declared.act.Act.TheVariants as act
use Rattle.cdb_commands.specs.declared.command.Command.{Command}
use Rattle.cdb_commands.specs.declared.command.Command.TheVariants.{Step, Auto, Lose, Redo, Forget, Break, Unbreak}
use Rattle.cdb_commands.specs.declared.command.Command.TheVariants.{Resume, Show, Decisions}
use Rattle.cdb_commands.specs.declared.command.Stop.TheVariants as stop
use Rattle.cdb_commands.specs.declared.command.View.TheVariants as view
use Rattle.cdb_text.specs.declared.fault.LineFault.{LineFault}
use Rattle.cdb_text.specs.declared.fault.LineFault.TheVariants.{Word, Number}
use Rattle.cdb_text.specs.declared.verb.Verb.{Verb}
use Rattle.cdb_text.specs.declared.verb.Verb.TheVariants as verb
use Rattle.cdb_text.specs.Readers.{Reader, end, word, last_word, number, number_or_end, register, ◌or◌}
use Rattle.cdb_text.specs.Readers.{◌>>=◌, number_at, read_by}
use Rattle.cdb_text.specs.Verbs.{on_step, on_loss}

-- ---- a command that ends with one number, with two or with three

abbrev pub one : (ℕ → Command) → Reader
one command = number Number (λ n. end (command n))

abbrev pub two : (ℕ → ℕ → Command) → Reader
two command = number Number (λ n. one (command n))

abbrev pub three : (ℕ → ℕ → ℕ → Command) → Reader
three command = number Number (λ n. two (command n))

-- ---- what follows a word

abbrev pub after_process : ℕ → Reader
after_process p =
    word "go" (end (Step p act.Go))
    or word "learn" (end (Step p act.Learn))
    or word "crash" (end (Step p act.Crash))
    or word "query" (number_or_end (Step p (act.Query None)) (λ l. end (Step p (act.Query (Some l)))))
    or last_word "recv" (two (λ s m. Step p (act.Recv s m)))

unfoldable pub after_step : Reader
after_step = number Number after_process

unfoldable pub after_break : Reader
after_break =
    word "decide" (one (λ p. Break (stop.Decide p)))
    or word "round" (two (λ p r. Break (stop.Round p r)))
    or word "recv" (one (λ p. Break (stop.Recv p)))
    or last_word "write" (register (λ x. end (Break (stop.Write x))))

unfoldable pub after_show : Reader
after_show =
    word "regs" (end (Show view.Regs))
    or word "mail" (end (Show view.Mail))
    or word "history" (end (Show view.History))
    or number Word (λ p. end (Show (view.Proc p)))

unfoldable pub after_verb : Verb → Reader
after_verb verb = word "lost" (three (on_loss verb)) or number Number (λ p. one (on_step verb p))

-- ---- a whole line

unfoldable pub whole_line : Reader
whole_line =
    word "undo" (after_verb verb.Undo)
    or word "redo" (end Redo)
    or word "why" (after_verb verb.Why)
    or word "lose" (three Lose)
    or word "step" after_step
    or word "auto" (one Auto)
    or word "forget" (end Forget)
    or word "rollback" (after_verb verb.Rollback)
    or word "break" after_break
    or word "unbreak" (one Unbreak)
    or word "resume" (end Resume)
    or word "show" after_show
    or last_word "decisions" (end Decisions)

-- ---- a line of a journal

-- the number of a seat, and the words after it
abbrev pub seat_at : List (List ℕ) → Result (ℕ × List (List ℕ)) LineFault
seat_at words = do
  seat ← number_at words
  if nat_lt MAX_SEATS seat.0 then Err Number else Ok seat

abbrev pub entry_at : List (List ℕ) → Result (ℕ × Command) LineFault
entry_at words = do
  seat ← seat_at words
  command ← read_by whole_line seat.1
  Ok (seat.0, command)
