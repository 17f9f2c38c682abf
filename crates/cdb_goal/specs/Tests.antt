-- What a process passes, by the round that it is in, whether it is alive, and its decision.
use Rattle.std.specs.Prelude.{ℕ, Bool, false, not, ◌&&◌, ◌==◌, nat_le, Option, is_some, is_none}
use Rattle.std.specs.Option.{option_map_or}
use Rattle.cdb_goal.specs.declared.tests.Test.{Test}
use Rattle.cdb_goal.specs.declared.tests.Test.TheVariants.{HasDecided, HasDecidedOther, IsUndecided, IsInRound}

abbrev pub passes : Test → ℕ → Bool → Option ℕ → Bool
passes HasDecided round alive decision = is_some decision
passes (HasDecidedOther value) round alive decision = option_map_or (λ other. not (other == value)) decision false
passes IsUndecided round alive decision = alive && is_none decision
passes (IsInRound least) round alive decision = nat_le least round
