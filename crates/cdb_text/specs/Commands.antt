-- The table of the commands: the parts of each command, each of which is one word of its line.
use Rattle.std.specs.Prelude.{ℕ, List, [], ◌∷◌, Some, None}
use Prim.Native.String.{String}
use Rattle.cdb_base.specs.declared.act.Act.TheVariants.{Go, Learn, Crash, Query, Recv}
use Rattle.cdb_base.specs.declared.register.Reg.{Reg}
use Rattle.cdb_commands.specs.declared.command.Command.{Command}
use Rattle.cdb_commands.specs.declared.command.Command.TheVariants.{Step, Auto, Lose, Undo, UndoLost, Redo, Forget}
use Rattle.cdb_commands.specs.declared.command.Command.TheVariants.{Rollback, RollbackLost, Why, WhyLost, Break}
use Rattle.cdb_commands.specs.declared.command.Command.TheVariants.{Unbreak, Resume, Show, Decisions}
use Rattle.cdb_commands.specs.declared.command.Stop.TheVariants as stop
use Rattle.cdb_commands.specs.declared.command.View.TheVariants as view

-- a fixed word, a number or a register
pub data CommandPart : Type 0 where
  fixed : String → CommandPart
  number : ℕ → CommandPart
  register : Reg → CommandPart

abbrev pub command_parts : Command → List CommandPart
command_parts (Step p Go) = fixed "step" ∷ number p ∷ fixed "go" ∷ []
command_parts (Step p Learn) = fixed "step" ∷ number p ∷ fixed "learn" ∷ []
command_parts (Step p Crash) = fixed "step" ∷ number p ∷ fixed "crash" ∷ []
command_parts (Step p (Query None)) = fixed "step" ∷ number p ∷ fixed "query" ∷ []
command_parts (Step p (Query (Some l))) = fixed "step" ∷ number p ∷ fixed "query" ∷ number l ∷ []
command_parts (Step p (Recv s m)) = fixed "step" ∷ number p ∷ fixed "recv" ∷ number s ∷ number m ∷ []
command_parts (Auto p) = fixed "auto" ∷ number p ∷ []
command_parts (Lose s m p) = fixed "lose" ∷ number s ∷ number m ∷ number p ∷ []
command_parts (Undo p k) = fixed "undo" ∷ number p ∷ number k ∷ []
command_parts (UndoLost s m p) = fixed "undo" ∷ fixed "lost" ∷ number s ∷ number m ∷ number p ∷ []
command_parts Redo = fixed "redo" ∷ []
command_parts Forget = fixed "forget" ∷ []
command_parts (Rollback p k) = fixed "rollback" ∷ number p ∷ number k ∷ []
command_parts (RollbackLost s m p) =
    fixed "rollback" ∷ fixed "lost" ∷ number s ∷ number m ∷ number p ∷ []
command_parts (Why p k) = fixed "why" ∷ number p ∷ number k ∷ []
command_parts (WhyLost s m p) = fixed "why" ∷ fixed "lost" ∷ number s ∷ number m ∷ number p ∷ []
command_parts (Break (stop.Decide p)) = fixed "break" ∷ fixed "decide" ∷ number p ∷ []
command_parts (Break (stop.Round p r)) = fixed "break" ∷ fixed "round" ∷ number p ∷ number r ∷ []
command_parts (Break (stop.Recv p)) = fixed "break" ∷ fixed "recv" ∷ number p ∷ []
command_parts (Break (stop.Write x)) = fixed "break" ∷ fixed "write" ∷ register x ∷ []
command_parts (Unbreak b) = fixed "unbreak" ∷ number b ∷ []
command_parts Resume = fixed "resume" ∷ []
command_parts (Show (view.Proc p)) = fixed "show" ∷ number p ∷ []
command_parts (Show view.Regs) = fixed "show" ∷ fixed "regs" ∷ []
command_parts (Show view.Mail) = fixed "show" ∷ fixed "mail" ∷ []
command_parts (Show view.History) = fixed "show" ∷ fixed "history" ∷ []
command_parts Decisions = fixed "decisions" ∷ []
