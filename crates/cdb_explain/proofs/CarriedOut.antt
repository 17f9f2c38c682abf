-- The run of a control that has carried commands out, and what holds of their journal.
use Rattle.std.proofs.Common.{◌≡◌, List, refl}
use Rattle.cdb_base.specs.declared.event.Event.{Event}
use Rattle.cdb_commands.specs.declared.command.Command.{Command}
use Rattle.cdb_control.specs.Headline.{Headline}
use Rattle.cdb_control.specs.Journal.{Journaled}
use Rattle.cdb_control.specs.OneSeat.{HasCarriedOut, carried_out, journal_of}
use Rattle.cdb_explain.specs.RunLeft.{run_of}
use Rattle.cdb_rules.specs.Rules.{Rules}
use Rattle.cdb_setup.specs.Parts.{Parts}

module _ (rules : Parts → Rules) (setup : Parts) (commands : List Command) (control : Journaled) (along : HasCarriedOut setup commands control) where
  -- the run of a control is that of its commands
  pub run_left : run_of rules control ≡ run_of rules (carried_out setup commands)
  run_left = rw (along.of_setup, along.one_seat, along.carried_out) refl

  -- the headline holds of the journal of its commands
  pub headline_left : (SameState : Parts → List Event → List Event → Type 0) → Headline rules SameState control.setup control.seats control.journal
      → Headline rules SameState setup 1 (journal_of commands)
  headline_left SameState holds = rw (along.of_setup, along.one_seat, along.carried_out) at holds
