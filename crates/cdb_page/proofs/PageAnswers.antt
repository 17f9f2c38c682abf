-- What undo answers, by the entry of an event.
use Rattle.std.proofs.Common.{ℕ, Option, Some, None, refl, ap}
use Rattle.cdb_base.specs.Event.{event_name}
use Rattle.cdb_base.specs.declared.event.Event.{Event}
use Rattle.cdb_rules.proofs.Undo.{free_undone, needed_refused}
use Rattle.cdb_rules.specs.RunView.{RunView}
use Rattle.cdb_rules.specs.Undo.{IsEventNamed, result_alone}
use Rattle.cdb_page.specs.Followed.{AnswersUndo}
use Rattle.cdb_page.specs.Listed.{IsNeededBy}

pub answers : (run : RunView) (at : ℕ) (event : Event) → IsEventNamed run.setup.processes run.history (event_name event) at event
    → (needed : Option ℕ) → IsNeededBy run.history at needed
    → AnswersUndo run event needed
answers run at event named None free = ap result_alone (free_undone run.setup.processes run.history (event_name event) at event named free)
answers run at event named (Some first) is =
    let link = is.0 in (
      link.effect,
      link.at_effect,
      ap result_alone (needed_refused run.setup.processes run.history (event_name event) at event named (event_name link.effect)
          (record { position = first; named = (link.effect, link.at_effect, refl); link = link; first = is.1 })),
    )
