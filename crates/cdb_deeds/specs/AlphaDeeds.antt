-- What a step of the Alpha machine did, by its table: for each place and kind, of the local state before the step.
use Rattle.std.specs.Prelude.{ℕ, ◌==◌, nat_lt, Option, Some, None, is_some, if◌then◌else◌}
use Rattle.cdb_base.specs.declared.event.Kind.{Kind}
use Rattle.cdb_base.specs.declared.event.Kind.TheVariants.{Query, Local}
use Rattle.cdb_alpha.specs.declared.place.Place.{Place}
use Rattle.cdb_alpha.specs.declared.place.Place.TheVariants.{A1, A4, A7}
use Rattle.cdb_alpha.specs.LocalState.{LocalState}
use Rattle.cdb_alpha.specs.Seen.{greatest_write, value_seen, chosen_value}
use Rattle.cdb_deeds.specs.Numbers.{number_of}
pub use Rattle.cdb_deeds.specs.declared.deed.Deed.{Deed}
use Rattle.cdb_deeds.specs.declared.deed.Deed.TheVariants as deed

-- ---- which register of those seen

-- the one whose value is settled: that of the cell that was written in the latest round, the least where several were;
-- none where no cell with a value was written
abbrev pub register_of_value : LocalState → Option ℕ
register_of_value s =
    if is_some (value_seen s.seen) then number_of (λ cell. cell.lrww == greatest_write s.seen) s.seen else None

-- the least one that was entered in a later round
abbrev pub register_of_later : LocalState → Option ℕ
register_of_later s = number_of (λ cell. nat_lt s.round cell.lre) s.seen

-- ---- what each row did

-- a pass is over: the round is given up where another process entered a later one
abbrev pub judges : LocalState → Deed → Option ℕ → Deed
judges s onward (Some register) = deed.GivesUp s.round register
judges s onward None = onward

-- the value is that of a register, or else the input of the process
abbrev pub settles : LocalState → Option ℕ → Deed
settles s (Some register) = deed.SettlesRegister (chosen_value s.input s.seen) register
settles s None = deed.SettlesInput (chosen_value s.input s.seen)

-- ---- of a step of that kind of process p

abbrev pub query_deed : Place → ℕ → LocalState → ℕ → Deed
query_deed A1 p s l = if l == p then deed.Round s.round else deed.Nothing
query_deed place p s l = deed.Nothing

abbrev pub local_deed : Place → LocalState → Deed
local_deed A4 s = judges s (settles s (register_of_value s)) (register_of_later s)
local_deed A7 s = judges s (deed.Carries s.round) (register_of_later s)
local_deed place s = deed.Nothing

abbrev pub alpha_deed : ℕ → LocalState → Kind → Deed
alpha_deed p s (Query l) = query_deed s.place p s l
alpha_deed p s Local = local_deed s.place s
alpha_deed p s kind = deed.Nothing
