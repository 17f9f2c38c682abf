-- Which events of a run depend on each other: five cases, the last four in either order of the two events.
use Rattle.std.specs.Prelude.{ℕ, Bool, false, ◌&&◌, ◌||◌, nat_eq}
use Rattle.cdb_base.specs.Registers.{same_register}
use Rattle.cdb_base.specs.declared.event.Event.{Event}
use Rattle.cdb_base.specs.declared.event.Event.TheVariants.{Step, Lost}
use Rattle.cdb_base.specs.declared.event.Kind.{Kind}
use Rattle.cdb_base.specs.declared.event.Kind.TheVariants.{Send, Recv, Read, Write}
use Rattle.cdb_base.specs.declared.register.Reg.{Reg}

-- whether a step of process p of that kind sends the m-th message of process s
abbrev pub sends : ℕ → ℕ → ℕ → Kind → Bool
sends s m p (Send number) = nat_eq p s && nat_eq number m
sends s m p _ = false

-- whether a step of that kind receives the m-th message of process s
abbrev pub receives : ℕ → ℕ → Kind → Bool
receives s m (Recv sender number) = nat_eq s sender && nat_eq m number
receives s m _ = false

-- whether a step of that kind reads or writes the register
abbrev pub accesses : Reg → Kind → Bool
accesses register (Read other) = same_register register other
accesses register (Write other) = same_register register other
accesses register _ = false

-- two steps of one process
abbrev pub same_process : Event → Event → Bool
same_process (Step p k kind) (Step q l other) = nat_eq p q
same_process _ _ = false

-- a send, and a receive of its message
abbrev pub send_and_receive : Event → Event → Bool
send_and_receive (Step p k (Send m)) (Step q l other) = receives p m other
send_and_receive _ _ = false

-- a write of a register, and another access of it
abbrev pub write_and_access : Event → Event → Bool
write_and_access (Step p k (Write register)) (Step q l other) = accesses register other
write_and_access _ _ = false

-- a send, and the loss of a copy of its message
abbrev pub send_and_loss : Event → Event → Bool
send_and_loss (Step p k kind) (Lost copy) = sends copy.msg.s copy.msg.m p kind
send_and_loss _ _ = false

-- the loss of a copy, and the receive of that copy
abbrev pub loss_and_receive : Event → Event → Bool
loss_and_receive (Lost copy) (Step q l other) = nat_eq q copy.to && receives copy.msg.s copy.msg.m other
loss_and_receive _ _ = false

-- the events are such a pair, in one order or the other
abbrev pub are_a : (Event → Event → Bool) → Event → Event → Bool
are_a pair event other = pair event other || pair other event

abbrev pub depends : Event → Event → Bool
depends event other =
    same_process event other
    || are_a send_and_receive event other
    || are_a write_and_access event other
    || are_a send_and_loss event other
    || are_a loss_and_receive event other
