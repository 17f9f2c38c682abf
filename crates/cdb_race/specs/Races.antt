-- What a race has done.
use Rattle.std.specs.Prelude.{◌≡◌, ℕ, ◌+◌, ◌-◌, ◌*◌, ◌<◌, ◌≤◌, Bool, true, List, [], Option}
use Rattle.std.specs.Prelude.{All, length, map, replicate, reverse, sum, take, slice_index_or, Vec}
use Rattle.std.specs.Global.{Global}
use Rattle.cdb_base.specs.Limits.{MAX_ENTRIES}
use Rattle.cdb_commands.specs.ReplyView.{ReplyView, reply_view}
use Rattle.cdb_control.specs.Journal.{Journaled, own, AreOfSeats}
pub use Rattle.cdb_control.specs.Journal.{replies_in}
use Rattle.cdb_commands.specs.declared.command.Command.{Command}
use Rattle.cdb_commands.specs.declared.command.Command.TheVariants.{Auto}
use Rattle.cdb_commands.specs.declared.reply.Reply.{Reply}
use Rattle.cdb_race.specs.Promises.{HasRan, HasEndedAtGate}
use Rattle.cdb_race.specs.Runs.{IsDrivenOut}
use Rattle.cdb_race.specs.declared.plan.Plan.{Plan}
use Rattle.cdb_race.specs.declared.threads.Raced.{Raced}
pub use Rattle.cdb_race.specs.declared.worker.Ran.{Ran}
use Rattle.cdb_rules.specs.Rules.{Rules}
use Rattle.cdb_setup.specs.Parts.{Parts}
use Rattle.cdb_shared.specs.Gates.{GateCall}
use Rattle.cdb_shared.specs.Seats.{SeatView}

-- what lists of replies hold
abbrev pub all_reply_views : List (Vec Reply Global) → List (List ReplyView)
all_reply_views replies = map (λ list. map reply_view list.items) replies

-- the outcomes of the threads of these seats, the last seat's first
abbrev pub AllRan : {T : Type 0} → (Parts → Rules) → Plan → List SeatView → List (Ran T) → Type 0
AllRan {T} rules plan seats rans =
    (k : ℕ) (ran : Ran T) → k < length rans → (before : SeatView)
    → HasRan rules plan (slice_index_or seats (length seats - 1 - k) before) (slice_index_or rans k ran)

-- how the sessions of these outcomes ended, by their gates; the last gate's and seat's first
abbrev pub AllEnded : {T G : Type 0} → (G → Option (List GateCall))
    → (G → Bool) → List G → List SeatView → List (Ran T) → Type 0
AllEnded {T} {G} gate_calls passes gates seats rans =
    (k : ℕ) (ran : Ran T) (gate : G) → k < length rans → (before : SeatView)
    → let of_k = slice_index_or rans k ran in
    HasEndedAtGate gate_calls passes (slice_index_or gates (length gates - 1 - k) gate)
    (slice_index_or seats (length seats - 1 - k) before) of_k.seat of_k.end

-- what the threads of these seats handed back
pub record HaveRan {T G : Type 0} (rules : Parts → Rules) (gate_calls : G → Option (List GateCall)) (passes : G → Bool)
    (plan : Plan) (gates : List G) (seats : List SeatView) (rans : List (Ran T)) : Type 0 where
  pub many : length rans ≡ length seats
  pub ran : AllRan rules plan seats rans
  pub ended : AllEnded gate_calls passes gates seats rans

-- each of these gates lets every call go on
abbrev pub AllPass : {G : Type 0} → (G → Bool) → List G → Type 0
AllPass passes gates = All (λ gate. passes gate ≡ true) gates

-- these are the seats of the outcomes, and these their replies, the first seat's first
abbrev pub AreSeatsOf : {T : Type 0} → List SeatView → List (Ran T) → Type 0
AreSeatsOf seats rans = seats ≡ map (λ ran. ran.seat) (reverse rans)

abbrev pub AreRepliesOf : {T : Type 0} → List (List ReplyView) → List (Ran T) → Type 0
AreRepliesOf replies_given rans = replies_given ≡ map (λ ran. map reply_view ran.replies.items) (reverse rans)

-- The final control and the replies of each seat: each process was driven by its seat, each script was served by its
-- seat, and the journal has no other entries.
pub record IsRaced (rules : Parts → Rules) (setup : Parts) (turns : ℕ) (scripts : List (List Command))
    (c : Journaled) (replies_given : List (List ReplyView)) : Type 0 where
  pub setup_is : c.setup ≡ setup
  pub seats_are : c.seats ≡ setup.processes + length scripts
  pub entries : AreOfSeats c.seats c.journal
  pub driven : (p : ℕ) → 1 ≤ p → p ≤ setup.processes → IsDrivenOut p turns (own p c.journal) (replies_in rules p c)
  pub served : (k : ℕ) → k < length scripts → own (setup.processes + k + 1) c.journal ≡ slice_index_or scripts k []
  pub many : length replies_given ≡ c.seats
  pub none : (k : ℕ) → k < setup.processes → slice_index_or replies_given k [] ≡ []
  pub replied : (k : ℕ) → k < length scripts
      → slice_index_or replies_given (setup.processes + k) [] ≡ replies_in rules (setup.processes + k + 1) c

-- A race that is not at its end: each process was driven by its seat for no more than its turns, of each script its
-- seat served a beginning, and the journal has no other entries.
pub record IsUnderWay (setup : Parts) (turns : ℕ) (scripts : List (List Command)) (c : Journaled) : Type 0 where
  pub setup_is : c.setup ≡ setup
  pub seats_are : c.seats ≡ setup.processes + length scripts
  pub entries : AreOfSeats c.seats c.journal
  pub driven : (p : ℕ) → 1 ≤ p → p ≤ setup.processes
      → (count : ℕ) × (count ≤ turns) × (own p c.journal ≡ replicate count (Auto p))
  pub served : (k : ℕ) → k < length scripts
      → (count : ℕ) × (own (setup.processes + k + 1) c.journal ≡ take count (slice_index_or scripts k []))

-- how many calls a race makes at most: of each process its turns, and each command of each script
abbrev pub most_calls : Parts → ℕ → List (List Command) → ℕ
most_calls setup turns scripts = setup.processes * turns + sum (map length scripts)

-- a race whose final control and replies are these
abbrev pub HasRaced : {T : Type 0} → (Parts → Rules) → Parts → ℕ → List (List Command) → Raced T → Type 0
HasRaced rules setup turns scripts raced =
    IsRaced rules setup turns scripts raced.control (all_reply_views raced.replies.items)

-- a race under way has come to a full journal
abbrev pub FillsJournal : Parts → ℕ → List (List Command) → Type 0
FillsJournal setup turns scripts = (c : Journaled) × IsUnderWay setup turns scripts c × (length c.journal ≡ MAX_ENTRIES)

-- a race makes, at most, as many calls as a journal has entries at most
abbrev pub MayFill : Parts → ℕ → List (List Command) → Type 0
MayFill setup turns scripts = MAX_ENTRIES ≤ most_calls setup turns scripts
