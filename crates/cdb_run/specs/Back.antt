-- What a step leaves for going back.
use Rattle.std.specs.Prelude.{Option, Some, None, option_map}
use Rattle.cdb_base.specs.declared.event.Kind.{Kind}
use Rattle.cdb_base.specs.declared.event.Kind.TheVariants.{Write}
use Rattle.cdb_base.specs.declared.register.Cell.{Cell}
use Rattle.cdb_register.specs.Registers.{RegisterStates, register_of}

-- the local state with what an input left put back; a step without an input left nothing
abbrev pub put_back : {L B : Type 0} → (L → B → L) → L → Option B → L
put_back before local None = local
put_back before local (Some back) = before local back

-- what a write overwrites
abbrev pub overwritten_cell : RegisterStates → Kind → Option Cell
overwritten_cell registers (Write register) = option_map (λ stands. stands.cell) (register_of registers register)
overwritten_cell registers _ = None
