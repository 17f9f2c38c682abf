-- A process as it is shown.
use Rattle.std.proofs.Common.{◌≡◌, Option, Some, None, IfNone, option_map, ap}
use Rattle.cdb_rules.specs.Rules.{Shown}

-- a process that is not there is not shown
pub none_shown : {L A : Type 0} (show : L → Shown) (found : Option A) (process : Option L)
    → IfNone found (process ≡ None) → IfNone found (option_map show process ≡ None)
none_shown show None process none = ap (option_map show) none
none_shown show (Some a) process none = tt
