-- Which fault a race returns.
use Rattle.std.specs.Prelude.{◌≡◌, ◌≢◌, ◌⊎◌, ℕ, ◌≤◌, Bool, List, All, Contains, length}
use Rattle.std.specs.Prelude.{Option, Some, None, Vec, vec_len, vec_capacity}
use Rattle.std.specs.Global.{Global}
use Rattle.atomic_table.specs.Seated.{TableId}
use Rattle.cdb_commands.specs.declared.command.Command.{Command}
use Rattle.cdb_commands.specs.declared.reply.Reply.{Reply}
use Rattle.cdb_race.specs.Plans.{seats_of, Plan}
use Rattle.cdb_race.specs.Races.{AllRan, AllEnded, Ran}
use Rattle.cdb_base.specs.Memory.{no_memory}
use Rattle.cdb_rules.specs.Rules.{Rules}
use Rattle.cdb_setup.specs.Parts.{Parts, IsWithin}
use Rattle.cdb_shared.specs.Gates.{GateCall}
use Rattle.cdb_shared.specs.Seats.{SeatView, AreFresh}
use Rattle.cdb_shared.specs.declared.session.End.{End}
use Rattle.cdb_shared.specs.declared.session.End.TheVariants.{All as AllDone, Done, Stopped, NoMemory, JournalFull}
use Rattle.cdb_streams.specs.declared.fault.PlayFault.TheVariants as play
use Rattle.cdb_streams.specs.declared.fault.RaceFault.{RaceFault}
use Rattle.cdb_streams.specs.declared.fault.RaceFault.TheVariants as fault

-- an allocation failed
abbrev pub out_of_memory : RaceFault
out_of_memory = fault.Play (play.NoMemory no_memory)

-- the fault of a seat whose session did not end well
abbrev pub fault_at : ℕ → End → Option RaceFault
fault_at seat AllDone = None
fault_at seat Done = None
fault_at seat Stopped = Some (fault.Stopped seat)
fault_at seat (NoMemory refused) = Some (fault.Play (play.NoMemory refused))
fault_at seat JournalFull = Some fault.JournalFull

-- that of what a thread hands back
abbrev pub fault_in : {T : Type 0} → Ran T → Option RaceFault
fault_in ran = fault_at ran.seat.number ran.end

-- none of the sessions has one
abbrev pub AreWell : {T : Type 0} → List (Ran T) → Type 0
AreWell rans = All (λ ran. fault_in ran ≡ None) rans

-- there is room for so many seats and their replies
abbrev pub IsRoomFor : ℕ → Vec SeatView Global → Vec (Vec Reply Global) Global → Type 0
IsRoomFor count seats replies =
    (vec_len seats ≡ 0) × (vec_len replies ≡ 0) × (count ≤ vec_capacity seats) × (count ≤ vec_capacity replies)

-- a seat that ran has this fault, and each that ran and has a fault has no lesser number
pub record IsOfLeastSeat {T : Type 0} (fault : RaceFault) (rans : List (Ran T)) : Type 0 where
  pub its : Ran T
  pub ran : Contains rans its
  pub has : fault_in its ≡ Some fault
  pub least : (other : Ran T) → Contains rans other → fault_in other ≢ None → its.seat.number ≤ other.seat.number

-- of the faults that a play may end with too it is out of memory, and a stopped seat is one of this many
abbrev pub IsAmongSeats : ℕ → RaceFault → Type 0
IsAmongSeats seats (fault.Play (play.NoMemory refused)) = Unit {0}
IsAmongSeats seats (fault.Play other) = ⊥
IsAmongSeats seats (fault.Stopped seat) = IsWithin 1 seats seat
IsAmongSeats seats other = Unit {0}

-- it is not that of a gate which stopped a session
abbrev pub IsNotStopped : RaceFault → Type 0
IsNotStopped (fault.Stopped seat) = ⊥
IsNotStopped other = Unit {0}

-- the fault of starting a thread
abbrev pub IsFaultOfStart : RaceFault → Type 0
IsFaultOfStart (fault.Spawn refused) = Unit {0}
IsFaultOfStart other = ⊥

-- the faults of starting the threads and of joining them
abbrev pub IsFaultOfThreads : RaceFault → Type 0
IsFaultOfThreads (fault.Play (play.NoMemory refused)) = Unit {0}
IsFaultOfThreads other = IsFaultOfStart other

-- Behind these gates: each seat has run, its session ended by its gate, and of the seats whose session a fault ended
-- the least has this one.
pub record IsFaultBehind {G : Type 0} (T : Type 0) (rules : Parts → Rules)
    (gate_calls : G → Option (List GateCall)) (passes : G → Bool) (gates : List G) (setup : Parts)
    (turns : ℕ) (scripts : List (List Command)) (fault : RaceFault) : Type 0 where
  pub plan : Plan
  pub processes_are : plan.processes ≡ setup.processes
  pub turns_are : plan.turns ≡ turns
  pub scripts_are : plan.scripts.now ≡ scripts
  pub shared : TableId
  pub seats : List SeatView
  pub new : AreFresh shared setup (seats_of plan) seats
  pub rans : List (Ran T)
  pub many : length rans ≡ seats_of plan
  pub ran : AllRan rules plan seats rans
  pub ended : AllEnded gate_calls passes gates seats rans
  pub least : IsOfLeastSeat fault rans

-- a fault of starting or joining the threads, or that of a seat
abbrev pub IsFaultOfOne : {G : Type 0} → Type 0 → (Parts → Rules) → (G → Option (List GateCall)) → (G → Bool) → List G
    → Parts → ℕ → List (List Command) → RaceFault → Type 0
IsFaultOfOne T rules gate_calls passes gates setup turns scripts fault =
    IsFaultOfThreads fault ⊎ IsFaultBehind T rules gate_calls passes gates setup turns scripts fault
