-- What the final journal has of the seats of a race, and what a race has done when it ended.
use Rattle.std.proofs.lemmas.Grind.{common_steps}
use Rattle.std.proofs.lemmas.Option.{gets}
use Rattle.std.proofs.Common.{◌≡◌, ℕ, ◌+◌, ◌-◌, ◌<◌, ◌≤◌, Bool, List, [], All, Option, Some, None, length, map, reverse, replicate, take, get_or, refl}
use Rattle.std.proofs.Common.{sym, ap, ◌∙◌, subst, arith, length-append}
use Rattle.std.proofs.lemmas.List.{length-map, length-reverse}
use Rattle.atomic_table.specs.Seated.{TableId}
use Rattle.cdb_base.specs.Limits.{MAX_ENTRIES}
use Rattle.cdb_control.proofs.Own.{replies_of-same}
use Rattle.cdb_commands.specs.ReplyView.{ReplyView, reply_view}
use Rattle.cdb_control.specs.Journal.{Journaled, opened, own, replies_of, AreOfSeats}
use Rattle.cdb_commands.specs.declared.command.Command.{Command}
use Rattle.cdb_commands.specs.declared.command.Command.TheVariants.{Auto}
use Rattle.cdb_race.specs.Faults.{fault_at, AreWell}
use Rattle.cdb_race.specs.LastFault.{IsLastFault}
use Rattle.cdb_race.specs.Plans.{script_of, seats_of, Plan}
use Rattle.cdb_race.specs.Promises.{HasRan, IsReady}
use Rattle.cdb_race.specs.Races.{AreRepliesOf, AreSeatsOf, FillsJournal, HaveRan, IsRaced, IsUnderWay, replies_in, Ran}
use Rattle.cdb_race.specs.Runs.{IsDrivenOut}
use Rattle.cdb_race.proofs.Collected.{taken_at}
use Rattle.cdb_race.proofs.Finishes.{driven_out, served_out}
use Rattle.cdb_rules.specs.Rules.{Rules}
use Rattle.cdb_setup.specs.Parts.{Parts}
use Rattle.cdb_shared.proofs.Ends.{some_of}
use Rattle.cdb_shared.specs.Gates.{GateCall}
use Rattle.cdb_shared.specs.Seats.{SeatView, AreFresh, RestsAt, IsKnownBy, fresh_seat}
use Rattle.cdb_shared.specs.Sessions.{calls_of, replies_to}
use Rattle.cdb_shared.specs.declared.session.End.{End}
use Rattle.cdb_shared.specs.declared.session.End.TheVariants.{JournalFull}
use Rattle.cdb_streams.specs.declared.fault.RaceFault.TheVariants as fault

-- a full journal is the fault of a seat that met one
met_full : (seat : ℕ) (end : End) → fault_at seat end ≡ Some fault.JournalFull → end ≡ JournalFull
met_full seat end has = grind (arith, common_steps, gets)

pub all_ready : {shared : TableId} {plan : Plan} {setup : Parts} {seats : List SeatView}
    → AreFresh shared setup (seats_of plan) seats → All (λ seat. IsReady shared plan seat) seats
all_ready new k d low = rw (new.each k d (omega (arith, new.many))) (record { rests = (refl, refl); new = refl; planned = omega (arith, new.many) })

-- the commands and the answers of a seat whose journal is known
own_known : (c : Journaled) (seat : SeatView) (n : ℕ) → seat.number ≡ n → IsKnownBy c seat → own n c.journal ≡ calls_of seat
own_known c seat n is known = ap (λ m. own m c.journal) (sym is) ∙ known.calls

replies_known_now : (rules : Parts → Rules) (c : Journaled) (seat : SeatView) (n : ℕ)
    → seat.number ≡ n → IsKnownBy c seat → replies_in rules n c ≡ replies_to rules seat
replies_known_now rules c seat n is known =
    (λ i. replies_of (rules (known.setup i)) (known.setup i) (known.seats i) (sym is i) c.journal)
    ∙ replies_of-same (rules seat.setup) seat.setup seat.seats seat.number seat.seen c.journal known.begins known.calls

-- the final control of these seats
pub record IsFinal (setup : Parts) (plan : Plan) (seats : List SeatView) (c : Journaled) : Type 0 where
  pub same : plan.processes ≡ setup.processes
  pub some : 1 ≤ setup.processes
  pub known : All (λ seat. IsKnownBy c seat) seats
  pub entries : AreOfSeats c.seats c.journal

module _ {T G : Type 0} {rules : Parts → Rules} {gate_calls : G → Option (List GateCall)} {passes : G → Bool} {gates : List G}
    {shared : TableId} {plan : Plan} {setup : Parts} {before : List SeatView} {rans : List (Ran T)}
    (new : AreFresh shared setup (seats_of plan) before) (all : HaveRan rules gate_calls passes plan gates before rans) where
  pub many : length rans ≡ seats_of plan
  many = all.many ∙ new.many

  -- what the seat at this position has done
  pub has_ran : (k : ℕ) (ran : Ran T) → k < seats_of plan
      → HasRan rules plan (fresh_seat shared (opened setup (seats_of plan)) (1 + k)) (get_or rans (seats_of plan - 1 - k) ran)
  has_ran k ran low =
      let none = fresh_seat shared (opened setup 0) 0 in
      let position : length before - 1 - (seats_of plan - 1 - k) ≡ k = omega (arith, new.many, low) in
      subst (λ (b : SeatView). HasRan rules plan b (get_or rans (seats_of plan - 1 - k) ran)) (ap (λ i. get_or before i none) position ∙ new.each k none low)
      (all.ran (seats_of plan - 1 - k) ran (omega (arith, many, low)) none)

  module _ {seats : List SeatView} (gathered : AreSeatsOf seats rans) where
    among : length seats ≡ seats_of plan
    among = ap length gathered ∙ length-map (reverse rans) _ ∙ length-reverse rans ∙ many

    pub all_rest : All (λ seat. RestsAt shared seat) seats
    all_rest k d low =
        let nobody = some_of rans (omega (arith, low, among, many)) in
        let later = (has_ran k nobody (omega (arith, low, among))).later in
        subst (RestsAt shared) (sym (taken_at (λ (r : Ran T). r.seat) rans (seats_of plan) k nobody d gathered many (omega (arith, low, among))))
        (later.home, later.rests)

    module _ (nobody : Ran T) {c : Journaled} (final : IsFinal setup plan seats c) where
      same : plan.processes ≡ setup.processes
      same = final.same

      abbrev ran_at : ℕ → Ran T
      ran_at k = get_or rans (seats_of plan - 1 - k) nobody

      knows : (k : ℕ) → k < seats_of plan → IsKnownBy c (ran_at k).seat
      knows k low =
          subst (IsKnownBy c) (taken_at (λ (r : Ran T). r.seat) rans (seats_of plan) k nobody nobody.seat gathered many low)
          (final.known k nobody.seat (omega (arith, low, among)))

      own_at : (k n : ℕ) → k < seats_of plan → n ≡ 1 + k → ((ran_at k).seat.number ≡ n) × (own n c.journal ≡ calls_of (ran_at k).seat)
      own_at k n low is =
          let number = (has_ran k nobody low).later.number ∙ sym is in
          (number, own_known c (ran_at k).seat n number (knows k low))

      replies_at : (k n : ℕ) → k < seats_of plan → n ≡ 1 + k → replies_in rules n c ≡ replies_to rules (ran_at k).seat
      replies_at k n low is = replies_known_now rules c (ran_at k).seat n (own_at k n low is).0 (knows k low)

      setup_is : c.setup ≡ setup
      setup_is = let low : 0 < seats_of plan = omega (arith, final.some, same) in (knows 0 low).setup ∙ (has_ran 0 nobody low).later.setup

      seats_are : c.seats ≡ seats_of plan
      seats_are = let low : 0 < seats_of plan = omega (arith, final.some, same) in (knows 0 low).seats ∙ (has_ran 0 nobody low).later.seats

      -- the script of a seat
      script_at : (k : ℕ) → get_or plan.scripts.now (1 + (plan.processes + k) - plan.processes - 1) [] ≡ get_or plan.scripts.now k []
      script_at k = let its : 1 + (plan.processes + k) - plan.processes - 1 ≡ k = omega arith in ap (λ n. get_or plan.scripts.now n []) its

      -- a race that a fault ended
      under_way : IsUnderWay setup plan.turns plan.scripts.now c
      under_way = record {
        setup_is = setup_is;
        seats_are = seats_are ∙ ap (λ n. n + length plan.scripts.now) same;
        entries = final.entries;
        driven = λ p from to.
            let low : p - 1 < seats_of plan = omega (arith, from, to, same) in
            let mine = own_at (p - 1) p low (omega (arith, from)) in
            let driven = ((has_ran (p - 1) nobody low).driven (omega (arith, from, to, same))).0 in
            (driven.count, driven.few, mine.1 ∙ driven.calls ∙ ap (λ n. replicate driven.count (Auto n)) mine.0);
        served = λ k below.
            let low : plan.processes + k < seats_of plan = omega (arith, below) in
            let served = (has_ran (plan.processes + k) nobody low).served (omega arith) in
            let count = length (map reply_view (ran_at (plan.processes + k)).replies.items) in (
              count,
              (own_at (plan.processes + k) (setup.processes + k + 1) low (omega (arith, same))).1 ∙ served.calls ∙ ap (take count) (script_at k),
            );
      }

      -- the journal that a seat saw is no longer than the final one
      full_at : (position : ℕ) → position < length rans → (get_or rans position nobody).end ≡ JournalFull
          → length c.journal ≤ MAX_ENTRIES → length c.journal ≡ MAX_ENTRIES
      full_at position low is few =
          let k = seats_of plan - 1 - position in
          let back : seats_of plan - 1 - k ≡ position = omega (arith, low, many) in
          let under : k < seats_of plan = omega (arith, low, many) in
          let seen = (has_ran k nobody under).full (ap (λ i. (get_or rans i nobody).end) back ∙ is) in
          let begins = (knows k under).begins in
          omega (arith, seen, few, ap length begins.1, length-append (ran_at k).seat.seen begins.0)

      -- a race in which no session met a fault
      pub raced : (well : AreWell rans) (replies_given : List (List ReplyView)) → AreRepliesOf replies_given rans
          → IsRaced rules setup plan.turns plan.scripts.now c replies_given
      raced well replies_given answered =
          let well_at : (k : ℕ) → k < seats_of plan → fault_at (ran_at k).seat.number (ran_at k).end ≡ None =
          λ k low. well (seats_of plan - 1 - k) nobody (omega (arith, low, many)) in
          let served_at : (k : ℕ) (high : plan.processes < 1 + k) (low : k < seats_of plan) → (calls_of (ran_at k).seat ≡ script_of plan (1 + k))
          × (replies_to rules (ran_at k).seat ≡ map reply_view (ran_at k).replies.items) =
          λ k high low. served_out rules (script_of plan (1 + k)) _ _ (ran_at k).end (well_at k low) ((has_ran k nobody low).served high) in
          let replied_at : (k : ℕ) → k < seats_of plan → get_or replies_given k [] ≡ map reply_view (ran_at k).replies.items =
          λ k low. taken_at (λ (r : Ran T). map reply_view r.replies.items) rans (seats_of plan) k nobody [] answered many low in
          record {
            setup_is = setup_is;
            seats_are = seats_are ∙ ap (λ n. n + length plan.scripts.now) same;
            entries = final.entries;
            driven = λ p from to.
                let low : p - 1 < seats_of plan = omega (arith, from, to, same) in
                let is : p ≡ 1 + (p - 1) = omega (arith, from) in
                let mine = own_at (p - 1) p low is in
                subst (λ (y : ℕ × List Command × List ReplyView). IsDrivenOut y.0 plan.turns y.1 y.2)
                (λ i. (mine.0 i, sym mine.1 i, sym (replies_at (p - 1) p low is) i))
                (driven_out rules plan.turns _ _ (well_at (p - 1) low) ((has_ran (p - 1) nobody low).driven (omega (arith, from, to, same))).0);
            served = λ k below.
                let low : plan.processes + k < seats_of plan = omega (arith, below) in
                (own_at (plan.processes + k) (setup.processes + k + 1) low (omega (arith, same))).1
                ∙ (served_at (plan.processes + k) (omega arith) low).0 ∙ script_at k;
            many = ap length answered ∙ length-map (reverse rans) _ ∙ length-reverse rans ∙ many ∙ sym seats_are;
            none = λ k below.
                let low : k < seats_of plan = omega (arith, below, same) in
                replied_at k low ∙ ((has_ran k nobody low).driven (omega (arith, below, same))).1;
            replied = λ k below.
                let low : plan.processes + k < seats_of plan = omega (arith, below) in
                ap (λ n. get_or replies_given (n + k) []) (sym same) ∙ replied_at (plan.processes + k) low
                ∙ sym (replies_at (plan.processes + k) (setup.processes + k + 1) low (omega (arith, same))
                ∙ (served_at (plan.processes + k) (omega arith) low).1);
          }

    -- a session that met a full journal has seen one that the race has filled
    pub filled : {c : Journaled} → IsFinal setup plan seats c → length c.journal ≤ MAX_ENTRIES → IsLastFault fault.JournalFull rans
        → FillsJournal setup plan.turns plan.scripts.now
    filled {c} final few last =
        let met = ap (λ (r : Ran T). r.end) last.at ∙ met_full last.its.seat.number last.its.end last.has in
        (c, under_way last.its final, full_at last.its final last.position last.within met few)
