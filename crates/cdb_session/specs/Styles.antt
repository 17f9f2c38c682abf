-- What a session shows beside its responses, and what calls do to the part of a journal that is its own.
use Rattle.std.specs.Prelude.{◌≡◌, ℕ, ◌≤◌, Bool, true, List, [], ◌∷◌, ◌++◌, Result, Ok, Err}
use Rattle.cdb_base.specs.Limits.{MAX_ENTRIES}
use Rattle.cdb_commands.specs.ReplyView.{ReplyView, reply_view}
use Rattle.cdb_commands.specs.declared.reply.Reply.{Reply}
use Rattle.cdb_control.specs.declared.control.CallFault.{CallFault}
use Rattle.cdb_control.specs.declared.control.CallFault.TheVariants.{JournalFull, NoMemory}
use Rattle.cdb_control.specs.declared.control.Entry.{Entry}
use Rattle.cdb_rules.specs.RunView.{RunView}
use Rattle.cdb_session.specs.Requests.{most_seats}
use Rattle.cdb_setup.specs.Parts.{IsWithin}

-- What is shown before the first prompt and before each line, the seat of the first lines, and whether a line may
-- choose another.
pub record StyleView : Type 0 where
  pub greeting : List ℕ
  pub prompt : List ℕ
  pub first : ℕ
  pub chooses : Bool

-- What a journal has of a session, and of those that it goes on from: their entries, in order, and the reply to each;
-- how many entries the journal has in all; how many of its first entries are theirs, and the run that these leave; and
-- the news of others between two positions.
pub record Part : Type 0 where
  pub calls : List Entry
  pub replies : List ReplyView
  pub entries : ℕ
  pub calls_in : ℕ → ℕ
  pub left_by : ℕ → RunView
  pub news : ℕ → ℕ → List ℕ

abbrev pub IsFull : Part → Type 0
IsFull part = part.entries ≡ MAX_ENTRIES

-- the journal begins as before
pub record GoesOn (old new : Part) : Type 0 where
  pub longer : old.entries ≤ new.entries
  pub calls_in : (first : ℕ) → first ≤ old.entries → new.calls_in first ≡ old.calls_in first
  pub left_by : (first : ℕ) → first ≤ old.entries → new.left_by first ≡ old.left_by first
  pub news : (from to : ℕ) → to ≤ old.entries → new.news from to ≡ old.news from to

-- the session made this entry, and got this reply
pub record IsCalled (old : Part) (one : Entry) (reply : ReplyView) (new : Part) : Type 0 where
  pub goes_on : GoesOn old new
  pub calls : new.calls ≡ old.calls ++ one ∷ []
  pub replies : new.replies ≡ old.replies ++ reply ∷ []
  pub room : ¬ IsFull old

-- the session made no entry
pub record MakesNone (old new : Part) : Type 0 where
  pub goes_on : GoesOn old new
  pub calls : new.calls ≡ old.calls
  pub replies : new.replies ≡ old.replies
  pub full : IsFull old → IsFull new

-- the session made these entries, and got these replies, of which there are none where the journal was full
pub record AreCalled (old : Part) (made : List Entry) (got : List ReplyView) (new : Part) : Type 0 where
  pub goes_on : GoesOn old new
  pub calls : new.calls ≡ old.calls ++ made
  pub replies : new.replies ≡ old.replies ++ got
  pub full : IsFull old → (got ≡ []) × IsFull new

-- a call, by what it returned
abbrev pub Calls : Part → Entry → Result Reply CallFault → Part → Type 0
Calls old one (Ok reply) new = IsCalled old one (reply_view reply) new
Calls old one (Err JournalFull) new = MakesNone old new × IsFull new
Calls old one (Err (NoMemory refused)) new = MakesNone old new

-- ---- the seats that calls may be of

pub record Seats : Type 0 where
  pub lowest : ℕ
  pub highest : ℕ

-- a session in this style may be at this seat
pub record MaySit (style : StyleView) (seats : Seats) (seat : ℕ) : Type 0 where
  pub sits : IsWithin seats.lowest seats.highest seat
  pub chooses : style.chooses ≡ true → (seats.lowest ≤ 1) × (most_seats ≤ seats.highest)

-- ---- one call after the other

-- such calls led from the one to the other
pub data Onward {C : Type 0} (Later : C → C → Type 0) (first : C) : C → Type 0 where
  stays : Onward Later first first
  goes : (now next : C) → Onward Later first now → Later now next → Onward Later first next
