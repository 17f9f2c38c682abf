-- A run that is played again, event by event.
use Rattle.std.specs.Prelude.{◌≡◌, ℕ, List, take}
use Rattle.cdb_base.specs.declared.name.MsgName.{MsgName}
use Rattle.cdb_deeds.specs.Deeds.{received_by_each}
use Rattle.cdb_rules.specs.RunView.{RunView}
use Rattle.cdb_rules.specs.Runs.{with_history}

-- it has taken the first events, count of them, in which each process received these messages
pub record IsPlayed (run : RunView) (count : ℕ) (it : RunView) (received : List (List MsgName)) : Type 0 where
  pub again : it ≡ with_history run (take count run.history)
  pub names : received ≡ received_by_each (take count run.history)
