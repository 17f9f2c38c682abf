-- The rule of the turn. One control stands in the queue, or one pass holds it.
use Rattle.std.specs.Prelude.{◌≡◌, ℕ, ◌+◌, ◌≤◌, ◌==◌, ◌⊎◌, if◌then◌else◌, List, [], ◌∷◌, ◌++◌, map, take, drop, length}
use mathlib.Core.Option.{some}
use lib.ListN.{get_elem?}
use Rattle.std.specs.List.{AllByRecursion, range_with_len}
use Rattle.cdb_commands.specs.declared.command.Command.{Command}
use Rattle.cdb_control.specs.Journal.{Journaled, Begins, entry, own}
use Rattle.cdb_shared.specs.declared.knowledge.Stage.{Stage}
use Rattle.cdb_shared.specs.declared.knowledge.Stage.TheVariants.{Opening, Resting, Holding}
use Rattle.cdb_shared.specs.declared.knowledge.KnownSeat.{KnownSeat}
use Rattle.cdb_shared.specs.declared.knowledge.Story.{Story}
use Rattle.cdb_shared.specs.declared.knowledge.Knowledge.{Knowledge}

-- what the rule sees of a control. The rooms of its seats are no part of that
abbrev pub story : Journaled → Story
story c = record { setup = c.setup; seats = c.seats; journal = c.journal }

-- one entry more
abbrev pub longer : Story → ℕ → Command → Story
longer c seat command = record c { journal = c.journal ++ entry seat command ∷ [] }

-- the first pass, until it gives the turn back: it has the control that is handed in
abbrev pub opening : Knowledge
opening = record { stage = Opening; known_seats = [] }

-- a pass that has not the turn
abbrev pub resting : List KnownSeat → Knowledge
resting known_seats = record { stage = Resting; known_seats = known_seats }

-- a pass that another took in
abbrev pub spent : Knowledge
spent = resting []

-- a pass that has this control
abbrev pub holding : List KnownSeat → Story → Knowledge
holding known_seats c = record { stage = Holding c; known_seats = known_seats }

-- The control has the setup and the number of seats that the seat knows. Its journal begins with what the seat
-- has seen, and has of the seat's calls just those.
pub record Knows (c : Story) (p : KnownSeat) : Type 0 where
  pub setup : c.setup ≡ p.setup
  pub seats : c.seats ≡ p.seats
  pub begins : Begins p.seen c.journal
  pub calls : own p.number c.journal ≡ own p.number p.seen

abbrev pub AllKnow : Story → List KnownSeat → Type 0
AllKnow c known_seats = AllByRecursion (Knows c) known_seats

-- a pass with the turn holds just this control
abbrev pub HoldsOnly : Story → Stage → Type 0
HoldsOnly c Opening = ⊥
HoldsOnly c Resting = Unit {0}
HoldsOnly c (Holding held) = held ≡ c

-- what a pass knows of the control
pub record Fits (c : Story) (v : Knowledge) : Type 0 where
  pub known : AllKnow c v.known_seats
  pub held : HoldsOnly c v.stage

-- how many turns a pass has at this stage
abbrev pub turns_at : Stage → ℕ
turns_at Resting = 0
turns_at stage = 1

abbrev pub turn_count : Knowledge → ℕ
turn_count v = turns_at v.stage

-- how many seats of this number a pass has
abbrev pub seats_among : ℕ → List KnownSeat → ℕ
seats_among number [] = 0
seats_among number (p ∷ ps) = (if p.number == number then 1 else 0) + seats_among number ps

abbrev pub seat_count : ℕ → Knowledge → ℕ
seat_count number v = seats_among number v.known_seats

-- such a number over all passes
abbrev pub total_of : (Knowledge → ℕ) → List Knowledge → ℕ
total_of count [] = 0
total_of count (v ∷ vs) = count v + total_of count vs

-- After the opening: each pass knows the one control, which stands in the queue or is held by the one pass that has
-- the turn, and no two seats have one number.
pub record Turns (items : List Journaled) (views : List Knowledge) : Type 0 where
  pub control : Story
  pub waits : AllByRecursion (λ x. story x ≡ control) items
  pub each : (pass : ℕ) (v : Knowledge) → get_elem? views pass ≡ some v → Fits control v
  pub turn : length items + total_of turn_count views ≡ 1
  pub once : (number : ℕ) → total_of (seat_count number) views ≤ 1

-- the rule
abbrev pub IsRuled : List Journaled → List Knowledge → Type 0
IsRuled items views = ((items ≡ []) × (views ≡ opening ∷ [])) ⊎ Turns items views

-- the seat of this number, which has seen the journal of this control
abbrev pub known_seat_at : Story → ℕ → KnownSeat
known_seat_at c number = record { number = number; setup = c.setup; seats = c.seats; seen = c.journal }

-- this many seats, with the numbers from this one on
abbrev pub known_seats_from : Story → ℕ → ℕ → List KnownSeat
known_seats_from c first n = map (known_seat_at c) (range_with_len first n)

-- the same seat, which has seen the journal of this control
abbrev pub seen_at : Story → KnownSeat → KnownSeat
seen_at c p = record { number = p.number; setup = p.setup; seats = p.seats; seen = c.journal }

-- the same seats, which have seen it
abbrev pub seen_by : Story → List KnownSeat → List KnownSeat
seen_by c known_seats = map (seen_at c) known_seats

-- the turn is taken: the pass holds the control, which its seats know
abbrev pub TurnTaken : Knowledge → Journaled → Knowledge → Type 0
TurnTaken v c w = (w ≡ holding v.known_seats (story c)) × AllKnow (story c) v.known_seats

-- the control is as it was, or has one command more, of the pass's only seat
abbrev pub MayGrow : List KnownSeat → Story → Story → Type 0
MayGrow known_seats before after =
    (after ≡ before)
    ⊎ ((p : KnownSeat) × (command : Command) × (known_seats ≡ p ∷ []) × (after ≡ longer before p.number command))

-- what a pass may give back; the first pass gives what is handed in
abbrev pub MayFollow : Stage → List KnownSeat → Story → Type 0
MayFollow Opening known_seats c = Unit {0}
MayFollow Resting known_seats c = ⊥
MayFollow (Holding before) known_seats c = MayGrow known_seats before c

abbrev pub MayGive : Knowledge → Journaled → Type 0
MayGive v c = MayFollow v.stage v.known_seats (story c)

-- the watch of a control, which has the number 0 and gives no command, and all its seats
abbrev pub watch_and_seats : Story → List KnownSeat
watch_and_seats c = known_seat_at c 0 ∷ known_seats_from c 1 c.seats

-- the seats of a pass that has given back, which have seen the journal; of the first pass the watch and all seats of
-- the control
abbrev pub seats_after : Stage → List KnownSeat → Story → List KnownSeat
seats_after Opening known_seats c = watch_and_seats c
seats_after stage known_seats c = seen_by c known_seats

-- the turn is given back: the pass rests
abbrev pub TurnGiven : Knowledge → Journaled → Knowledge → Type 0
TurnGiven v c w = w ≡ resting (seats_after v.stage v.known_seats (story c))

-- while a pass holds the control, none stands in the queue
abbrev pub NoneWaits : Knowledge → List Journaled → Type 0
NoneWaits v items = items ≡ []

abbrev pub without_first : Knowledge → Knowledge
without_first v = resting (drop 1 v.known_seats)

abbrev pub first_alone : Knowledge → Knowledge
first_alone v = resting (take 1 v.known_seats)

abbrev pub joined_pass : Knowledge → Knowledge → Knowledge
joined_pass v u = resting (u.known_seats ++ v.known_seats)
