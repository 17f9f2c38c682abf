-- Dependence in terms of what a step affects, as the code tests it.
use Rattle.std.specs.Prelude.{ℕ, Bool, false, ◌&&◌, nat_eq}
use Rattle.cdb_base.specs.declared.event.Event.{Event}
use Rattle.cdb_base.specs.declared.event.Event.TheVariants.{Step, Lost}
use Rattle.cdb_base.specs.declared.event.Kind.{Kind}
use Rattle.cdb_base.specs.declared.event.Kind.TheVariants.{Send, Write}
use Rattle.cdb_causal.specs.Dependence.{sends, receives, accesses}

-- whether a step of process p of the first kind sends what one of the second kind receives, or writes a register that
-- it accesses
abbrev pub kind_affects : ℕ → Kind → Kind → Bool
kind_affects p (Send m) other = receives p m other
kind_affects p (Write register) other = accesses register other
kind_affects p _ other = false

-- whether one step affects the other so, or sends what is lost, or receives what was lost
abbrev pub affects : Event → Event → Bool
affects (Step p k kind) (Step q l other) = kind_affects p kind other
affects (Step p k kind) (Lost copy) = sends copy.msg.s copy.msg.m p kind
affects (Lost copy) (Step q l other) = nat_eq q copy.to && receives copy.msg.s copy.msg.m other
affects (Lost copy) (Lost other) = false
