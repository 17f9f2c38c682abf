-- The steps of one process of the Alpha machine, as far as agreement depends on them: each input that the table takes
-- is one.
--
-- Beside its local state a process has a trace, which the code does not keep: the rounds and values that it wrote, and
-- the rounds that it carried through, whose second pass let it go on to the write of the decision.
use Rattle.std.specs.Prelude.{◌≡◌, ℕ, suc, ◌+◌, ◌<◌, ◌≤◌, List, [], ◌∷◌, ◌++◌, length, Contains, Option, Some, ◌⊎◌}
use Rattle.cdb_base.specs.declared.register.Cell.{Cell}
use Rattle.cdb_base.specs.declared.register.Reg.TheVariants.{R, Dec}
use Rattle.cdb_process.specs.Wishes.{wished_cell}
use Rattle.cdb_process.specs.declared.Input.{Input}
use Rattle.cdb_process.specs.declared.Input.TheVariants as input
use Rattle.cdb_alpha.specs.LocalState.{LocalState}
use Rattle.cdb_alpha.specs.Place.{place_number}
use Rattle.cdb_alpha.specs.Table.{wish_of, next_state}

-- the local state of one process, and its trace
pub record Traced : Type 0 where
  pub place : ℕ
  pub round : ℕ
  pub value : ℕ
  pub own : Cell
  pub seen : List Cell
  pub decision : Option ℕ
  pub own_writes : List (ℕ × ℕ)
  pub carried : List ℕ

-- the value that the cells seen give: that of a cell with the greatest round of a write, where such a cell has one
pub record ValueBasis (seen : List Cell) (v : ℕ) : Type 0 where
  pub top : Cell
  pub is_seen : Contains seen top
  pub greatest : (c : Cell) → Contains seen c → c.lrww ≤ top.lrww
  pub taken : (x : ℕ) → 0 < top.lrww → top.val ≡ Some x → v ≡ x

-- the pass goes on or is over
abbrev pub PassPlace : ℕ → ℕ → ℕ → ℕ → Type 0
PassPlace n seen reading place = ((place ≡ reading) × (suc seen < n)) ⊎ ((place ≡ suc reading) × (suc seen ≡ n))

-- one row of the table, with what it rests on. `own m` is the cell that register m holds, `dec` the value that the
-- register of the decision holds
pub data FoundedRow (n : ℕ) (own : ℕ → Cell) (dec : Option ℕ) (l : Traced) : Type 0 where
  stay : FoundedRow n own dec l
  decide : (v : ℕ) → l.place ≡ 0 → dec ≡ Some v → FoundedRow n own dec l
  look : l.place ≡ 0 → FoundedRow n own dec l
  lead : l.place ≡ 1 → FoundedRow n own dec l
  follow : l.place ≡ 1 → FoundedRow n own dec l
  enter : l.place ≡ 2 → FoundedRow n own dec l
  read : (p : ℕ) → l.place ≡ 3 → PassPlace n (length l.seen) 3 p → FoundedRow n own dec l
  give_up : l.place ≡ 4 → FoundedRow n own dec l
  settle : (v : ℕ) → l.place ≡ 4 → ValueBasis l.seen v → FoundedRow n own dec l
  write : l.place ≡ 5 → FoundedRow n own dec l
  read_again : (p : ℕ) → l.place ≡ 6 → PassPlace n (length l.seen) 6 p → FoundedRow n own dec l
  fail : l.place ≡ 7 → FoundedRow n own dec l
  carry : l.place ≡ 7 → ((c : Cell) → Contains l.seen c → c.lre ≤ l.round) → FoundedRow n own dec l
  publish : l.place ≡ 8 → FoundedRow n own dec l

-- the state that a row leaves
abbrev pub after_row : (n : ℕ) (own : ℕ → Cell) (dec : Option ℕ) (l : Traced) → FoundedRow n own dec l → Traced
after_row n own dec l stay = l
after_row n own dec l (decide v here found) = record l { place = 9; decision = Some v }
after_row n own dec l (look here) = record l { place = 1 }
after_row n own dec l (lead here) = record l { place = 2 }
after_row n own dec l (follow here) = record l { place = 0 }
after_row n own dec l (enter here) =
    record l { place = 3; own = record { lre = l.round; lrww = l.own.lrww; val = l.own.val }; seen = [] }
after_row n own dec l (read p here pass) = record l { place = p; seen = l.seen ++ own (suc (length l.seen)) ∷ [] }
after_row n own dec l (give_up here) = record l { place = 0; round = l.round + n }
after_row n own dec l (settle v here basis) = record l { place = 5; value = v }
after_row n own dec l (write here) =
    record l {
      place = 6;
      own = record { lre = l.round; lrww = l.round; val = Some l.value };
      seen = [];
      own_writes = l.own_writes ++ (l.round, l.value) ∷ [];
    }
after_row n own dec l (read_again p here pass) = record l { place = p; seen = l.seen ++ own (suc (length l.seen)) ∷ [] }
after_row n own dec l (fail here) = record l { place = 0; round = l.round + n }
after_row n own dec l (carry here low) = record l { place = 8; carried = l.carried ++ l.round ∷ [] }
after_row n own dec l (publish here) = record l { place = 0; round = l.round + n }

-- what the register of the decision holds after a row
abbrev pub published_by : (n : ℕ) (own : ℕ → Cell) (dec : Option ℕ) (l : Traced) → FoundedRow n own dec l → Option ℕ
published_by n own dec l (publish here) = Some l.value
published_by n own dec l _ = dec

-- one step of a process, from l to k
pub record Step (n : ℕ) (own : ℕ → Cell) (dec : Option ℕ)
    (l : Traced) (k : Traced) (published : Option ℕ) : Type 0 where
  pub row : FoundedRow n own dec l
  pub is : k ≡ after_row n own dec l row
  pub same : published ≡ published_by n own dec l row

-- ---- the table

-- the local state with a trace
abbrev pub traced_of : LocalState → List (ℕ × ℕ) → List ℕ → Traced
traced_of s own_writes carried = record {
  place = place_number s.place;
  round = s.round;
  value = s.value;
  own = s.own;
  seen = s.seen;
  decision = s.decision;
  own_writes = own_writes;
  carried = carried;
}

-- what the register of the decision holds, which is of no round
abbrev pub decided : Option ℕ → Cell
decided value = record { lre = 0; lrww = 0; val = value }

-- what a read gives is what the register holds
abbrev pub ReadsRegisters : (ℕ → Cell) → Option ℕ → Input → Type 0
ReadsRegisters own dec (input.Read (R j) c) = c ≡ own j
ReadsRegisters own dec (input.Read Dec c) = c ≡ decided dec
ReadsRegisters own dec i = Unit {0}

-- what an input leaves in the registers
abbrev pub LeavesRegisters : Option ℕ → LocalState → LocalState → Option ℕ → Input → Type 0
LeavesRegisters dec s t published (input.Write (R j)) =
    (j ≡ s.me) × (wished_cell (wish_of s) ≡ Some t.own) × (published ≡ dec)
LeavesRegisters dec s t published (input.Write Dec) =
    (t.own ≡ s.own) × (wished_cell (wish_of s) ≡ Some (decided published))
LeavesRegisters dec s t published i = (t.own ≡ s.own) × (published ≡ dec)

-- the step that an input is, with the trace and the register of the decision that it leaves
pub record TableStep (own : ℕ → Cell) (dec : Option ℕ) (s t : LocalState)
    (own_writes : List (ℕ × ℕ)) (carried : List ℕ) (i : Input) : Type 0 where
  pub own_writes_after : List (ℕ × ℕ)
  pub carried_after : List ℕ
  pub published : Option ℕ
  pub step : Step s.processes own dec (traced_of s own_writes carried)
      (traced_of t own_writes_after carried_after) published
  pub leaves : LeavesRegisters dec s t published i
  pub same_me : t.me ≡ s.me
  pub same_processes : t.processes ≡ s.processes

-- each input that the table takes, of a process that has seen a cell where its first pass is over, is a step
abbrev pub EachInputIsAStep : Type 0
EachInputIsAStep =
    (own : ℕ → Cell) (dec : Option ℕ) (s t : LocalState) (own_writes : List (ℕ × ℕ)) (carried : List ℕ) (i : Input)
    → (place_number s.place ≡ 4 → 1 ≤ length s.seen) → ReadsRegisters own dec i
    → next_state s i ≡ Some t → TableStep own dec s t own_writes carried i
