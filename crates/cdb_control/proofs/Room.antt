-- The room that seats were promised.
use Rattle.std.proofs.lemmas.Bool.{cases_eq, cases_lt}
use Rattle.std.proofs.lemmas.Grind.{common_steps}
use Rattle.std.proofs.lemmas.Option.{gets}
use Rattle.std.proofs.Common.{◌≡◌, ⊎_elim, ◌≢◌, ℕ, zero, suc, ◌+◌, ◌-◌, ◌<◌, ◌≤◌, max, List, [], ◌∷◌, length, map, set, get_or}
use Rattle.std.proofs.Common.{replicate, refl, sym, ap, ◌∙◌, subst, arith}
use Rattle.std.proofs.lemmas.List.{length-set, length-replicate, map-set, get_or-set_same, get_or-set_other}
use Rattle.cdb_base.specs.declared.event.Event.{Event}
use Rattle.cdb_control.specs.Commands.{Outcome}
use Rattle.cdb_control.specs.Done.{NoneShrinks}
use Rattle.cdb_control.specs.Room.{StoredState, cost, room_of, with_room, lowered, raised}
use Rattle.cdb_control.specs.Kept.{HoldsRooms, rooms_at}
use Rattle.cdb_control.proofs.Refused.{Leaves}
use Rattle.cdb_control.specs.State.{State, redo_of}
use Rattle.cdb_commands.specs.ReplyView.{ReplyView}
use Rattle.cdb_rules.specs.Rules.{Rules}

-- ---- rooms, by the ends of them

pub room-at : (room_ends : List ℕ) (n i : ℕ) → get_or (rooms_at n room_ends) i 0 ≡ get_or room_ends i 0 - n
room-at room_ends n i = grind (arith, common_steps, gets)

-- an entry more takes one of each room
one_less : (room_ends : List ℕ) (n : ℕ) → rooms_at (n + 1) room_ends ≡ map (λ room. room - 1) (rooms_at n room_ends)
one_less [] n = refl
one_less (m ∷ ms) n = let head : m - (n + 1) ≡ m - n - 1 = omega arith in λ j. head j ∷ one_less ms n j

-- the end of a room is lowered by all but one of what a command takes, and the journal gets its entry
pub rooms-next : (room_ends : List ℕ) (seat n : ℕ) (said : ReplyView) → 1 ≤ cost said
    → rooms_at (n + 1) (with_room room_ends seat (room_of room_ends seat - (cost said - 1))) ≡ lowered (rooms_at n room_ends) seat said
rooms-next room_ends seat n said one =
    let room : room_of room_ends seat - (cost said - 1) - (n + 1) ≡ room_of (rooms_at n room_ends) seat - cost said
    = omega (arith, one, room-at room_ends n (seat - 1)) in
    map-set (λ room_end. room_end - (n + 1)) room_ends (seat - 1) _ ∙ (λ j. set (one_less room_ends n j) (seat - 1) (room j))

pub rooms-more : (room_ends : List ℕ) (seat n count : ℕ)
    → rooms_at n (with_room room_ends seat (max (n + count) (room_of room_ends seat))) ≡ raised (rooms_at n room_ends) seat count
rooms-more room_ends seat n count =
    let room : max (n + count) (room_of room_ends seat) - n ≡ max count (room_of (rooms_at n room_ends) seat)
    = omega (arith, room-at room_ends n (seat - 1)) in
    map-set (λ room_end. room_end - n) room_ends (seat - 1) _ ∙ ap (set (rooms_at n room_ends) (seat - 1)) room

pub rooms-none : (seats : ℕ) → rooms_at 0 (replicate seats 0) ≡ replicate seats 0
rooms-none zero = refl
rooms-none (suc n) = ap (λ (rooms : List ℕ). 0 ∷ rooms) (rooms-none n)

-- ---- what is promised stays in memory

by_seat : {P : ℕ → Type 0} (seat : ℕ) → P (seat - 1) → ((i : ℕ) → i ≢ seat - 1 → P i) → (i : ℕ) → P i
by_seat {P} seat own other i = ⊎_elim (λ same. subst P (sym same) own) (other i) (cases_eq i (seat - 1))

-- the end of the room of one seat is another
module _ {n m space space' : ℕ} {room_ends : List ℕ} {was next : StoredState} (seat room_end : ℕ)
    (room : HoldsRooms n space room_ends was) (there : seat - 1 < length was.state.redo) where
  -- its own promise is kept, and those of the others, whose lists are as they were
  pub HoldsRooms-with : length next.state.redo ≡ length was.state.redo
      → ((i : ℕ) → i ≢ seat - 1 → get_or next.state.redo i [] ≡ get_or was.state.redo i []) → NoneShrinks was.capacities next.capacities
      → space ≤ space' → n ≤ m
      → (m < room_end → (room_end ≤ space') × (length (redo_of next.state seat) + room_end ≤ get_or next.capacities (seat - 1) 0 + m))
      → HoldsRooms m space' (with_room room_ends seat room_end) next
  HoldsRooms-with lists others grown more on own =
      let its = get_or-set_same room_ends (seat - 1) room_end 0 (omega (arith, room.seats, there)) in
      let other = λ (i : ℕ) (apart : i ≢ seat - 1). get_or-set_other room_ends (seat - 1) i room_end 0 apart in
      record {
        seats = length-set room_ends (seat - 1) room_end ∙ room.seats ∙ sym lists;
        journal = by_seat seat
            (λ some. rw its (own (rw its at some)).0)
            (λ i apart some. let was = room.journal i (omega (arith, other i apart, some)) in omega (arith, other i apart, was, more));
        lists = by_seat seat
            (λ some. rw its (own (rw its at some)).1)
            (λ i apart some.
            let was = room.lists i (omega (arith, other i apart, some)) in
            let long = ap (λ (l : List Event). length l) (others i apart) in
            omega (arith, other i apart, was, long, grown i, on));
      }

-- A command of a seat was carried out, the end of its room was lowered, and the journal is one entry longer.
pub HoldsRooms-next : {n space space' : ℕ} {room_ends : List ℕ} {was next : StoredState} {rules : Rules} {o : Outcome} (seat : ℕ)
    → HoldsRooms n space room_ends was → seat - 1 < length was.state.redo → Leaves rules was.state seat o → next.state ≡ o.after
    → NoneShrinks was.capacities next.capacities → space ≤ space'
    → HoldsRooms (n + 1) space' (with_room room_ends seat (room_of room_ends seat - (cost o.reply - 1))) next
HoldsRooms-next {n} {room_ends = room_ends} seat room there leaves after grown more =
    HoldsRooms-with seat _ room there (ap (λ (t : State). length t.redo) after ∙ leaves.lists)
    (λ i apart. ap (λ (t : State). get_or t.redo i []) after ∙ leaves.others i apart) grown more (omega arith)
    (λ some.
    let one = leaves.one in
    let promised : n < room_of room_ends seat = omega (arith, one, some) in
    let long = ap (λ (t : State). length (redo_of t seat)) after in (
      omega (arith, room.journal (seat - 1) promised, more, one),
      omega (arith, room.lists (seat - 1) promised, long, leaves.own there, grown (seat - 1), one, some),
    ))

-- memory was made for more
pub HoldsRooms-raised : {n space space' : ℕ} {room_ends : List ℕ} {was next : StoredState} (seat count : ℕ)
    → HoldsRooms n space room_ends was → seat - 1 < length was.state.redo → next.state ≡ was.state
    → NoneShrinks was.capacities next.capacities → space ≤ space' → n + count ≤ space'
    → length (redo_of was.state seat) + count ≤ get_or next.capacities (seat - 1) 0
    → HoldsRooms n space' (with_room room_ends seat (max (n + count) (room_of room_ends seat))) next
HoldsRooms-raised {n} {room_ends = room_ends} seat count room there same grown more journal list =
    HoldsRooms-with seat _ room there (ap (λ (t : State). length t.redo) same) (λ i apart. ap (λ (t : State). get_or t.redo i []) same)
    grown more (omega arith)
    (λ some.
    let long = ap (λ (t : State). length (redo_of t seat)) same in
    ⊎_elim
    (λ (old : n < room_of room_ends seat).
    (omega (arith, room.journal (seat - 1) old, more, journal), omega (arith, room.lists (seat - 1) old, long, grown (seat - 1), list)))
    (λ none. (omega (arith, none, journal), omega (arith, none, long, list)))
    (cases_lt n (room_of room_ends seat)))

-- nobody was promised anything
pub HoldsRooms-first : (space seats : ℕ) (stored : StoredState) → length stored.state.redo ≡ seats → HoldsRooms 0 space (replicate seats 0) stored
HoldsRooms-first space seats stored long =
    record {
      seats = length-replicate seats 0 ∙ sym long;
      journal = λ i some. absurd (omega (arith, no_end seats i, some));
      lists = λ i some. absurd (omega (arith, no_end seats i, some));
    }
  where
    no_end : (seats i : ℕ) → get_or {A = ℕ} (replicate seats 0) i 0 ≡ 0
    no_end seats i = grind (arith, common_steps, gets)

-- where the state is as it was, and no memory was given back, the room is as it was
pub HoldsRooms-kept : {n space space' : ℕ} {room_ends : List ℕ} {was next : StoredState} → HoldsRooms n space room_ends was
    → space ≤ space' → next.state ≡ was.state → NoneShrinks was.capacities next.capacities → HoldsRooms n space' room_ends next
HoldsRooms-kept room more same grown =
    record {
      seats = room.seats ∙ ap (λ (t : State). length t.redo) (sym same);
      journal = λ i some. omega (arith, room.journal i some, more);
      lists = λ i some. omega (arith, room.lists i some, grown i, ap (λ (t : State). length (get_or t.redo i [])) same);
    }
