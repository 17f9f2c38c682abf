-- How two histories are compared, process by process.
use Rattle.std.specs.Prelude.{◌≡◌, All, List}
use Rattle.cdb_base.specs.Processes.{all_processes}
use Rattle.cdb_base.specs.declared.event.Event.{Event}
use Rattle.cdb_rules.specs.OwnSteps.{own_steps}
use Rattle.cdb_standing.specs.Comparisons.{LoseSame}

-- two histories have of each process the same steps, each access after as many writes, and the same losses
abbrev pub AreAlike : List Event → List Event → Type 0
AreAlike history other = All (λ p. own_steps p history ≡ own_steps p other) all_processes × LoseSame history other
