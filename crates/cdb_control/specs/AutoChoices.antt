-- Whether `auto` is refused by itself.
use Rattle.std.specs.Prelude.{◌≡◌, ℕ, List, Result, Err}
use Rattle.cdb_base.specs.declared.act.Act.{Act}
use Rattle.cdb_base.specs.declared.event.Event.{Event}
use Rattle.cdb_base.specs.declared.refusal.Refusal.{Refusal}
use Rattle.cdb_control.specs.Auto.{chosen}
use Rattle.cdb_rules.specs.Rules.{Rules}

-- `auto` is refused with it, whatever act is possible
abbrev pub IsRefusedForAuto : Rules → List Event → ℕ → Refusal → Type 0
IsRefusedForAuto rules history p why =
    (possible : Result Act Refusal) → chosen (rules.process history p) possible ≡ Err why

-- none of the refusals of `auto` itself holds
abbrev pub IsFreeForAuto : Rules → List Event → ℕ → Type 0
IsFreeForAuto rules history p = (possible : Result Act Refusal) → chosen (rules.process history p) possible ≡ possible
