-- What a play writes.
use Rattle.std.specs.Prelude.{◌≡◌, ℕ, ◌≤◌, List, length, flat_map}
use Rattle.cdb_base.specs.declared.event.Event.{Event}
use Rattle.cdb_commands.specs.declared.command.Command.{Command}
use Rattle.cdb_control.specs.Headline.{Headline}
use Rattle.cdb_control.specs.Journal.{Journaled, reply_in, replies_of}
use Rattle.cdb_rules.specs.Rules.{Rules}
use Rattle.cdb_setup.specs.Parts.{Parts}
use Rattle.cdb_setup.specs.Format.{Encodes, longest}
use Rattle.cdb_text.specs.Texts.{text_of}
use Rattle.cdb_control.specs.OneSeat.{journal_of}
use Rattle.cdb_streams.specs.Lines.{lines_of}
use Rattle.cdb_streams.specs.Scripts.{AreCommandsOf}
use Rattle.cdb_streams.specs.Streams.{IsReadToEnd, Stream}

-- the text of the reply to a command of the only seat
abbrev pub reply_to : (Parts → Rules) → Journaled → Command → List ℕ
reply_to rules control command = text_of (reply_in rules control 1 command)

-- the texts of the replies to these commands, one after the other
unfoldable pub transcript : Rules → Parts → List Command → List ℕ
transcript rules setup commands = flat_map text_of (replies_of rules setup 1 1 (journal_of commands))

-- the text is the transcript of a script, by the rules of the setup that a text of JSON encodes
pub record IsTranscriptOf (rules : Parts → Rules) (json script text : List ℕ) : Type 0 where
  pub setup : Parts
  pub commands : List Command
  pub encodes : Encodes json setup
  pub short : length script ≤ longest
  pub lines : AreCommandsOf commands (lines_of script)
  pub is : text ≡ transcript (rules setup) setup commands

-- a reader was read to its end, and the text is the transcript of the script that it gave
abbrev pub Plays : (Parts → Rules) → List ℕ → Stream → Stream → List ℕ → Type 0
Plays rules json old new text = (script : List ℕ) × IsReadToEnd old script new × IsTranscriptOf rules json script text

-- such a play, and the headline holds of the journal whose replies the transcript has
pub record RestsOnHeadline (rules : Parts → Rules) (SameState : Parts → List Event → List Event → Type 0)
    (json : List ℕ) (old new : Stream) (text : List ℕ) : Type 0 where
  pub plays : Plays rules json old new text
  pub headline : Headline rules SameState plays.2.setup 1 (journal_of plays.2.commands)
