-- The lines of a session.
use Rattle.std.specs.Prelude.{◌≡◌, ◌⊎◌, true, ℕ, List}
use Rattle.cdb_commands.specs.declared.command.Command.{Command}
use Rattle.cdb_text.specs.Grammar.{IsLineOf}
use Rattle.cdb_session.specs.Due.{amiss_in, nothing}
use Rattle.cdb_session.specs.Requests.{IsOwn}
use Rattle.cdb_session.specs.Typed.{line_meant}

-- a line of a command, and each that a session takes beside commands, stands for itself
abbrev pub ExactLinesStand : Type 0
ExactLinesStand =
    (line : List ℕ) → (IsOwn line ⊎ ((command : Command) × IsLineOf command line)) → line_meant line ≡ line

-- a line in which nothing is amiss is that of a command, or one that a session takes beside commands
abbrev pub SoundLinesAreTaken : Type 0
SoundLinesAreTaken =
    (line : List ℕ) → amiss_in true line ≡ nothing → IsOwn line ⊎ ((command : Command) × IsLineOf command line)
