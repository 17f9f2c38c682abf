-- The commands of a script are those of the only seat, so a play rests on the headline.
use Rattle.std.proofs.Common.{ℕ, List, [], ◌∷◌, arith}
use Rattle.cdb_base.specs.declared.event.Event.{Event}
use Rattle.cdb_commands.specs.declared.command.Command.{Command}
use Rattle.cdb_control.specs.Headline.{Headline}
use Rattle.cdb_control.specs.Journal.{AreOfSeats}
use Rattle.cdb_control.specs.Laws.{ForJournals}
use Rattle.cdb_control.specs.OneSeat.{journal_of}
use Rattle.cdb_play.specs.Transcripts.{Plays, RestsOnHeadline}
use Rattle.cdb_rules.specs.Rules.{Rules}
use Rattle.cdb_setup.specs.Parts.{Parts}
use Rattle.cdb_streams.specs.Streams.{Stream}

of_the_only_seat : (commands : List Command) → AreOfSeats 1 (journal_of commands)
of_the_only_seat [] = tt
of_the_only_seat (command ∷ commands) = ((omega arith, omega arith), of_the_only_seat commands)

pub on_headline : (rules : Parts → Rules) (SameState : Parts → List Event → List Event → Type 0)
    → ForJournals (λ setup seats journal. Headline rules SameState setup seats journal) → {json : List ℕ} {old new : Stream}
    (text : List ℕ) → Plays rules json old new text → RestsOnHeadline rules SameState json old new text
on_headline rules SameState headline text plays =
    let it = plays.2 in
    record { plays = plays; headline = headline it.setup it.encodes.3.ranges 1 (journal_of it.commands) (of_the_only_seat it.commands) }
