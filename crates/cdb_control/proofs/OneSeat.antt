-- A control of one seat carries out one command after the other.
use Rattle.std.proofs.Common.{◌≡◌, List, [], ◌∷◌, ◌++◌, sym, ap, ◌∙◌}
use Rattle.std.proofs.lemmas.List.{map-append}
use Rattle.cdb_commands.specs.declared.command.Command.{Command}
use Rattle.cdb_control.specs.Journal.{Journaled, entry, extended}
use Rattle.cdb_control.specs.OneSeat.{HasCarriedOut}
use Rattle.cdb_rules.specs.Rules.{Rules}
use Rattle.cdb_setup.specs.Parts.{Parts}

-- one command more is carried out
pub one_command : (rules : Parts → Rules) (setup : Parts) (done : List Command) (command : Command) (control : Journaled) → HasCarriedOut setup done control
    → (left : Journaled) → left ≡ extended rules control 1 command → HasCarriedOut setup (done ++ command ∷ []) left
one_command rules setup done command control along left is =
    record {
      of_setup = ap (λ c. c.setup) is ∙ along.of_setup;
      one_seat = ap (λ c. c.seats) is ∙ along.one_seat;
      carried_out = ap (λ c. c.journal) is ∙ ap (λ journal. journal ++ entry 1 command ∷ []) along.carried_out ∙ sym (map-append (entry 1) done (command ∷ []));
    }
