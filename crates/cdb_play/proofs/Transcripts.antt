-- A transcript grows by the text of one reply after the other.
use Rattle.std.proofs.Common.{◌≡◌, ℕ, List, [], ◌∷◌, ◌++◌, refl, ap, append-nil, flat_map}
use Rattle.std.proofs.lemmas.List.{map-append}
use Rattle.std.proofs.lemmas.Grind.{flat_map-append}
use Rattle.cdb_commands.specs.declared.command.Command.{Command}
use Rattle.cdb_control.specs.Commands.{obey}
use Rattle.cdb_control.specs.Journal.{Journaled, entry, replay, replay_from, replies_from}
use Rattle.cdb_control.specs.State.{first_control_state}
use Rattle.cdb_control.proofs.Own.{replies_from-append}
use Rattle.cdb_rules.specs.Rules.{Rules}
use Rattle.cdb_setup.specs.Parts.{Parts}
use Rattle.cdb_text.specs.Texts.{text_of}
use Rattle.cdb_control.specs.OneSeat.{HasCarriedOut, carried_out, journal_of}
use Rattle.cdb_play.specs.Transcripts.{Plays, reply_to, transcript}
use Rattle.cdb_setup.specs.Format.{Encodes}
use Rattle.cdb_streams.specs.Scripts.{GivesCommands}
use Rattle.cdb_streams.specs.Streams.{Stream}

pub no_texts : (rules : Rules) (setup : Parts) → transcript rules setup [] ≡ []
unfolding transcript
no_texts rules setup = refl

-- the texts of what follows a command
abbrev pub texts_behind : Rules → Parts → List Command → Command → List Command → List ℕ
texts_behind rules setup done command rest =
    flat_map text_of (replies_from rules (obey rules (replay_from rules (first_control_state setup 1) (journal_of done)) 1 command) 1 (journal_of rest))

pub one_text : (rules : Parts → Rules) (setup : Parts) (done : List Command) (command : Command) (rest : List Command)
    → transcript (rules setup) setup (done ++ command ∷ rest)
    ≡ transcript (rules setup) setup done ++ (reply_to rules (carried_out setup done) command ++ texts_behind (rules setup) setup done command rest)
unfolding transcript replay
one_text rules setup done command rest =
    let first = first_control_state setup 1 in
    rw (map-append (entry 1) done (command ∷ rest), replies_from-append (rules setup) first 1 (journal_of done) (journal_of (command ∷ rest)))
    (flat_map-append text_of (replies_from (rules setup) first 1 (journal_of done)) _)

module _ (rules : Parts → Rules) (setup : Parts) (done : List Command) (command : Command) (control : Journaled)
    (along : HasCarriedOut setup done control) where
  same_text : reply_to rules control command ≡ reply_to rules (carried_out setup done) command
  same_text = rw (along.of_setup, along.one_seat, along.carried_out) refl

  -- the transcript so far, and the text of the reply to one command more
  pub one_reply : transcript (rules setup) setup (done ++ command ∷ []) ≡ transcript (rules setup) setup done ++ reply_to rules control command
  one_reply = rw (one_text rules setup done command [], same_text) (ap (λ text. transcript (rules setup) setup done ++ text) (append-nil _))

  -- the transcript so far, the text of one reply, and those after it
  pub parted_transcript : (rest : List Command)
      → transcript (rules setup) setup (done ++ command ∷ rest)
      ≡ transcript (rules setup) setup done ++ (reply_to rules control command ++ texts_behind (rules setup) setup done command rest)
  parted_transcript rest = rw (one_text rules setup done command rest, same_text) refl

-- the script that gave the commands is played
pub plays_of : (rules : Parts → Rules) {json : List ℕ} {setup : Parts} (old new : Stream) (commands : List Command)
    → Encodes json setup → GivesCommands old new commands → Plays rules json old new (transcript (rules setup) setup commands)
plays_of rules {setup = setup} old new commands found (script, read, is) =
    (script, read, record { setup = setup; commands = commands; encodes = found; short = is.0; lines = is.1; is = refl })
