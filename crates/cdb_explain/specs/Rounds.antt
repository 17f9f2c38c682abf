-- The round of a process before an event.
use Rattle.std.specs.Prelude.{ℕ, ◌-◌}
use Rattle.std.specs.Option.{option_map_or}
use Rattle.cdb_base.specs.Positions.{nth}
use Rattle.cdb_base.specs.declared.event.Event.{Event}
use Rattle.cdb_base.specs.declared.event.Event.TheVariants.{Step, Lost}
use Rattle.cdb_explain.specs.Explanations.{run_after}
use Rattle.cdb_rules.specs.RunView.{RunView}
use Rattle.cdb_rules.specs.Rules.{Rules}
use Rattle.cdb_rules.specs.Views.{round_of}
use Rattle.cdb_setup.specs.Parts.{Parts}

-- the round of the process of a step
abbrev pub round_by : (Parts → Rules) → RunView → Event → ℕ
round_by rules run (Step p k kind) = round_of (rules run.setup) run.history p
round_by rules run (Lost copy) = 0

-- that of the process of the event at that position, before the event
abbrev pub round_before : (Parts → Rules) → RunView → ℕ → ℕ
round_before rules run position =
    option_map_or (round_by rules (run_after run (position - 1))) (nth run.history position) 0
