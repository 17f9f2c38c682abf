-- A step of each kind, computed: of process 1 of two, by a machine that accepts all that it is given.
use Rattle.std.proofs.Common.{◌≡◌, ℕ, zero, suc, Bool, true, false, List, [], ◌∷◌, Option, Some, None, refl}
use Rattle.std.specs.FinSet as set
use Rattle.cdb_base.specs.declared.event.Event.TheVariants.{Step, Lost}
use Rattle.cdb_base.specs.declared.event.Kind.{Kind}
use Rattle.cdb_base.specs.declared.event.Kind.TheVariants.{Query, Send, Recv, Read, Write, Local, Learn, Crash}
use Rattle.cdb_base.specs.declared.payload.Payload.{Payload}
use Rattle.cdb_base.specs.declared.payload.Payload.TheVariants.{D}
use Rattle.cdb_base.specs.declared.register.Cell.{Cell}
use Rattle.cdb_base.specs.declared.register.Reg.TheVariants.{R}
use Rattle.cdb_message.specs.Mail.{message_name, copy_name}
use Rattle.cdb_message.specs.Names.{NameSet, name_cmp, copy_cmp}
use Rattle.cdb_process.specs.declared.Wish.{Wish}
use Rattle.cdb_process.specs.declared.Wish.TheVariants as wished
use Rattle.cdb_register.specs.Registers.{RegisterStates, fresh_registers, after_write}
use Rattle.cdb_rules.specs.State.{Machine, ProcessState, RunState, fresh_process}
use Rattle.cdb_rules.specs.Step.{after}

abbrev payload : Payload
payload = D 8

abbrev cell : Cell
cell = record { lre = 3; lrww = 2; val = Some 8 }

-- it counts what it took; first it would send, and then write to the register of process 1
abbrev wish : ℕ → Option Wish
wish zero = Some (wished.Send payload)
wish (suc n) = Some (wished.Write (R 1) cell)

abbrev machine : Machine ℕ
machine =
    record {
      firsts = 0 ∷ 0 ∷ [];
      has_registers = true;
      loses_copies = true;
      next = λ local given. Some (suc local);
      accepts_query = λ local. true;
      accepts_receive = λ local. true;
      wish = wish;
      done = λ local. false;
    }

-- process 1 stands so, process 2 as at the start
abbrev stands : ProcessState ℕ → RegisterStates → RunState ℕ
stands process registers = record { processes = process ∷ fresh_process 0 ∷ []; registers = registers; lost = set.empty }

abbrev registers : RegisterStates
registers = fresh_registers 2

-- process 1 after its first step, which leads to that local state
abbrev stepped : ℕ → Bool → ℕ → List Payload → NameSet → Kind → Option ℕ → ProcessState ℕ
stepped local alive queries sent received kind writes =
    record {
      progress = record { local = local; alive = alive; steps = 1; queries = queries };
      sent = sent;
      received = received;
      own = record { event = Step 1 1 kind; writes_before = writes } ∷ [];
    }

-- a process that has sent a message, with no step before
abbrev sender : ProcessState ℕ
sender = record (fresh_process 0) { sent = payload ∷ [] }

-- the state after the k-th step of process 1 of that kind, where it stands so
abbrev step : ProcessState ℕ → ℕ → Kind → Option (RunState ℕ)
step process k kind = after machine (stands process registers) (Step 1 k kind)

abbrev fresh : ProcessState ℕ
fresh = fresh_process 0

each_kind : (step fresh 1 (Query 2) ≡ Some (stands (stepped 1 true 1 [] set.empty (Query 2) None) registers))
    × (step fresh 1 (Send 1) ≡ Some (stands (stepped 1 true 0 (payload ∷ []) set.empty (Send 1) None) registers))
    × (step fresh 1 (Read (R 2)) ≡ Some (stands (stepped 1 true 0 [] set.empty (Read (R 2)) (Some 0)) registers))
    × (step (fresh_process 1) 1 (Write (R 1))
    ≡ Some (stands (stepped 2 true 0 [] set.empty (Write (R 1)) (Some 0)) (after_write registers (R 1) cell)))
    × (step fresh 1 Local ≡ Some (stands (stepped 1 true 0 [] set.empty Local None) registers))
    × (step fresh 1 Learn ≡ Some (stands (stepped 1 true 0 [] set.empty Learn None) registers))
    × (step fresh 1 Crash ≡ Some (stands (stepped 0 false 0 [] set.empty Crash None) registers))
each_kind = (refl, refl, refl, refl, refl, refl, refl)

-- the second step is not the first
numbered : step fresh 2 Local ≡ None
numbered = refl

receive : (step sender 1 (Recv 1 1)
    ≡ Some (stands (stepped 1 true 0 (payload ∷ []) (set.insert set.empty (message_name 1 1)) (Recv 1 1) None) registers))
    × (step sender 1 (Recv 1 2) ≡ None)
receive = (simp (set.contains-empty name_cmp, set.contains-empty copy_cmp), simp (set.contains-empty name_cmp, set.contains-empty copy_cmp))

loss : after machine (stands sender registers) (Lost (copy_name (message_name 1 1) 2))
    ≡ Some (record (stands sender registers) { lost = set.insert set.empty (copy_name (message_name 1 1) 2) })
loss = simp (set.contains-empty name_cmp, set.contains-empty copy_cmp)
