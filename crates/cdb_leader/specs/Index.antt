-- Where in an inbox the first messages of each kind stand.
use Rattle.std.specs.Prelude.{◌≡◌, ℕ, zero, suc, ◌==◌, Bool, true, false, not, List, [], ◌∷◌, Option, Some, None}
use Rattle.std.specs.Prelude.{is_some, take, drop, nat_eq, if◌then◌else◌}
use Rattle.std.specs.Option.{option_map, option_flatten, unwrap_or}
use Rattle.std.specs.List.{list_all}
use Rattle.std.specs.HashMap.{get}
use Rattle.cdb_base.specs.declared.payload.Payload.{Payload}
use Rattle.cdb_base.specs.declared.payload.Payload.TheVariants.{P1, P2, D}
use Rattle.cdb_base.specs.Positions.{nth}
use Rattle.cdb_leader.specs.declared.inbox.Received.{Received}
use Rattle.cdb_leader.specs.declared.firsts.Firsts.{Firsts}
use Rattle.cdb_leader.specs.declared.spot.TheConstants.{KNOWN}
use Rattle.cdb_leader.specs.declared.row.Row.{Row}
use Rattle.cdb_leader.specs.declared.index.Index.{Index}
use Rattle.cdb_leader.specs.Inbox.{first_given, if_from, first_phase, second_phase, as_decision}

-- the round of a first-phase or second-phase message
abbrev pub message_round : Payload → Option ℕ
message_round (P1 round est lead) = Some round
message_round (P2 round aux) = Some round
message_round (D est) = None

-- ---- positions

-- the position of the first element that passes
abbrev pub first_position : {X : Type 0} → (X → Bool) → List X → Option ℕ
first_position test [] = None
first_position test (x ∷ xs) = if test x then Some zero else option_map suc (first_position test xs)

-- ---- what the index knows

-- the first messages of an inbox, which the index knows
unfoldable pub known : List Received → List Received
known inbox = take KNOWN inbox

-- the messages from the position that is kept on; where none is, those that the index does not know
unfoldable pub from_kept : Option ℕ → List Received → List Received
from_kept kept inbox = drop (unwrap_or kept KNOWN) inbox

-- ---- by sender

-- the position that is kept for s
unfoldable pub position_from : ℕ → Firsts → Option ℕ
position_from s kept = option_flatten (nth kept.positions s)

-- nothing is kept
abbrev pub keeps_none : Firsts → Bool
keeps_none kept = list_all (λ position. not (is_some position)) kept.positions

-- only what is kept for s changes
abbrev pub ChangesFrom : ℕ → (Option ℕ → Option ℕ) → Firsts → Firsts → Type 0
ChangesFrom s change old new =
    (t : ℕ) → position_from t new ≡ (if s == t then change (position_from t old) else position_from t old)

-- the message came from s and reads as something
abbrev pub reads_from : {A : Type 0} → ℕ → (Payload → Option A) → Received → Bool
reads_from s reading e = is_some (if_from s reading e)

-- for each sender the position of its first message that reads as something
abbrev pub AreFirsts : {A : Type 0} → (Payload → Option A) → Firsts → List Received → Type 0
AreFirsts reading kept inbox =
    (s : ℕ) → position_from s kept ≡ first_position (reads_from s reading) inbox

-- ---- by round

-- what the first second-phase message of round r carries, whoever sent it
abbrev pub vote_in : ℕ → List Received → Option (Option ℕ)
vote_in r inbox = first_given (λ e. second_phase r e.payload) inbox

-- both are there, and they carry different things
abbrev pub are_different : Option (Option ℕ) → Option (Option ℕ) → Bool
are_different None y = false
are_different (Some x) None = false
are_different (Some None) (Some None) = false
are_different (Some None) (Some (Some w)) = true
are_different (Some (Some v)) (Some None) = true
are_different (Some (Some v)) (Some (Some w)) = not (v == w)

-- the row says where in the inbox the first messages of round r stand: those of each sender, the
-- first vote, and the first that carries something else than that
pub record IsRowOf (r : ℕ) (row : Row) (inbox : List Received) : Type 0 where
  pub first_phases : AreFirsts (first_phase r) row.first_phases inbox
  pub second_phases : AreFirsts (second_phase r) row.second_phases inbox
  pub vote : row.vote ≡ first_position (λ e. is_some (second_phase r e.payload)) inbox
  pub other_vote : row.other_vote
      ≡ first_position (λ e. are_different (vote_in r inbox) (second_phase r e.payload)) inbox

-- the row keeps nothing
pub record IsEmptyRow (row : Row) : Type 0 where
  pub first_phases : (s : ℕ) → position_from s row.first_phases ≡ None
  pub second_phases : (s : ℕ) → position_from s row.second_phases ≡ None
  pub vote : row.vote ≡ None
  pub other_vote : row.other_vote ≡ None

-- ---- the index of an inbox

pub record IsIndexOf (index : Index) (inbox : List Received) : Type 0 where
  pub rounds : (r : ℕ) → IsRowOf r (unwrap_or (get nat_eq index.rows r) index.no_row) inbox
  pub none : IsEmptyRow index.no_row
  pub decisions : AreFirsts as_decision index.decisions inbox
