-- A race's fault names one of its seats, where it names a seat.
use Rattle.std.proofs.lemmas.Grind.{common_steps}
use Rattle.std.proofs.lemmas.Option.{gets}
use Rattle.std.proofs.Common.{◌≡◌, inl, inr, ℕ, ◌+◌, ◌-◌, ◌<◌, ◌≤◌, Bool, List, Option, Some, length, get_or, sym, ap, ◌∙◌, arith}
use Rattle.atomic_table.specs.Seated.{TableId}
use Rattle.cdb_control.specs.Journal.{opened}
use Rattle.cdb_commands.specs.declared.command.Command.{Command}
use Rattle.cdb_race.specs.LastFault.{IsLastFault}
use Rattle.cdb_race.specs.Faults.{fault_at, fault_in, IsAmongSeats, IsNotStopped, IsOfLeastSeat, IsFaultOfOne}
use Rattle.cdb_race.specs.Plans.{seats_of, Plan}
use Rattle.cdb_race.specs.Races.{AllPass, HaveRan, Ran}
use Rattle.cdb_race.proofs.Outcomes.{has_ran, many}
use Rattle.cdb_rules.specs.Rules.{Rules}
use Rattle.cdb_setup.specs.Parts.{Parts, IsWithin}
use Rattle.cdb_shared.proofs.Ends.{some_of}
use Rattle.cdb_shared.specs.Gates.{GateCall}
use Rattle.cdb_shared.specs.Seats.{SeatView, AreFresh, fresh_seat}
use Rattle.cdb_shared.specs.declared.session.End.{End}
use Rattle.cdb_shared.specs.declared.session.End.TheVariants.{Stopped}
use Rattle.cdb_streams.specs.declared.fault.RaceFault.{RaceFault}
use Rattle.cdb_streams.specs.declared.fault.RaceFault.TheVariants as fault

-- what is not more is at most as many
at_most : (count most : ℕ) → (most < count → ⊥) → count ≤ most
at_most count most not_more = omega arith

-- the fault of a session names its seat
of_end : (n seat : ℕ) (end : End) (why : RaceFault) → fault_at seat end ≡ Some why → IsWithin 1 n seat → IsAmongSeats n why
of_end n seat end why has within = grind (arith, common_steps, gets)

module _ {T G : Type 0} {rules : Parts → Rules} {gate_calls : G → Option (List GateCall)} {passes : G → Bool} {gates : List G}
    {shared : TableId} {plan : Plan} {setup : Parts} {before : List SeatView} {rans : List (Ran T)}
    (new : AreFresh shared setup (seats_of plan) before) (all : HaveRan rules gate_calls passes plan gates before rans) where
  so_many : length rans ≡ seats_of plan
  so_many = many new all

  -- what each outcome says of its seat: the last seat's comes first
  number_at : (k : ℕ) (its : Ran T) → k < length rans → get_or rans k its ≡ its → its.seat.number ≡ seats_of plan - k
  number_at k its within at =
      let back : seats_of plan - 1 - (seats_of plan - 1 - k) ≡ k = omega (arith, within, so_many) in
      let number = (has_ran new all (seats_of plan - 1 - k) its (omega (arith, within, so_many))).later.number in
      ap (λ (r : Ran T). r.seat.number) (sym at) ∙ ap (λ i. (get_or rans i its).seat.number) (sym back) ∙ number ∙ omega (arith, within, so_many)

  -- and so does that of the least seat
  pub of_last : (why : RaceFault) → IsLastFault why rans → IsAmongSeats (seats_of plan) why
  of_last why last =
      let its = last.its in
      let number = number_at last.position its last.within last.at in
      of_end (seats_of plan) its.seat.number its.end why last.has (omega (arith, number, last.within, so_many), omega (arith, number))

  -- the last outcome with a fault is that of the least seat which has one
  pub least_seat : (why : RaceFault) → IsLastFault why rans → IsOfLeastSeat why rans
  least_seat why last = record {
    its = last.its;
    ran = (last.position, last.within, last.at);
    has = last.has;
    least = λ other among has.
        let k = among.0 in
        let earlier : k ≤ last.position = at_most k last.position (λ behind. has (ap fault_in (sym among.2) ∙ last.last k other behind among.1)) in
        omega (arith, number_at last.position last.its last.within last.at, number_at k other among.1 among.2, earlier);
  }

-- a seat that is told to have stopped did stop
stopped : (seat n : ℕ) (end : End) → fault_at seat end ≡ Some (fault.Stopped n) → end ≡ Stopped
stopped seat n end has = grind (arith, common_steps, gets)

-- where all gates let every call go on none stopped a session
pub passes_or_threads : {G T : Type 0} {rules : Parts → Rules} {gate_calls : G → Option (List GateCall)} {passes : G → Bool} {gates : List G}
    {setup : Parts} {turns : ℕ} {scripts : List (List Command)} (why : RaceFault) → length gates ≡ setup.processes + length scripts
    → IsFaultOfOne T rules gate_calls passes gates setup turns scripts why → AllPass passes gates → IsNotStopped why
passes_or_threads (fault.Stopped seat) many (inl threads) all = threads
passes_or_threads {gates = gates} {setup = setup} (fault.Stopped seat) many (inr it) all =
    let least = it.least in
    let its = least.its in
    let position = least.ran.0 in
    let low = least.ran.1 in
    let first = some_of gates (omega (arith, many, it.many, low, it.processes_are, ap length it.scripts_are)) in
    let ended = it.ended position its first low (fresh_seat it.shared (opened setup 0) 0) in
    let end : (get_or it.rans position its).end ≡ Stopped = ap (λ (r : Ran _). r.end) least.ran.2 ∙ stopped its.seat.number seat its.end least.has in
    ended.passed (all (length gates - 1 - position) first (omega (arith, many, it.many, low, it.processes_are, ap length it.scripts_are))) end
passes_or_threads other many it all = tt
