-- Moves one after the other.
use Rattle.std.proofs.Common.{rules, ◌≡◌, ℕ, ◌<◌, List, [], ◌∷◌, length, take, sym, ap, subst, ◌∙◌, append-nil, arith, length-append, Option, ◌⊎◌, inl, inr}
use Rattle.std.proofs.Common.{Bool, ◌++◌, refl, append_assoc, Some, None, ◌+◌, ◌-◌, drop, take-append-drop}
use Rattle.std.specs.Prelude.{Result, Ok, Err}
use Rattle.std.specs.Io.{ReadsAtMost}
use Rattle.std.specs.Io.KnownBytes.{Consumes, IsAtEnd, ReadConsumes, Appends}
use Rattle.cdb_session.specs.Moves.{Move, Read, ReadFailed, Saving, Continues, read_in, saved_in, AsksForInput, FindsTheEnd, AreAllOf, move_of_read}
use Rattle.cdb_session.specs.Moves.{move_of_write, Known, given_by, said_by, saved_by, written_by, said_in, written_in, AreWrites, EndsWith, Makes, count_on}
use Rattle.cdb_session.specs.Moves.{is_failed_read, is_failed_write, WritesAll, Output, Wrote, Saves, byte, file, says, FailsToWrite}
use Rattle.std.proofs.lemmas.Grind.{common_steps, flat_map-append}
use Rattle.std.proofs.lemmas.Option.{gets}
use Rattle.std.proofs.KnownBytes.{Appends-nil, Appends-trans, Consumes-nil, Consumes-trans}
use Rattle.std.proofs.lemmas.List.{map-append, take_rest}
use Rattle.std.proofs.Math.Seq.{take-add}
use Rattle.cdb_rules.proofs.Alls.{all-append}

-- ---- the end of the input, in one call of a console

-- the one move is a read of nothing
only_move : (move : Move) → FindsTheEnd (move ∷ []) → move ≡ Read []
only_move move ([], later, e, writes) = cc
only_move move (first ∷ before, later, e, writes) = absurd (omega (arith, ap length e, length-append before (Read [] ∷ later)))

all_at_end : (old new : Option (List ℕ)) → Consumes old new [] → IsAtEnd new → AreAllOf old []
all_at_end old new consumes end = search rules

-- a read of nothing finds the end of what is left
pub read_to_end : (E : Type 0) (old new : Option (List ℕ)) (result : Result ℕ E) (buffer : List ℕ) → 0 < length buffer
    → ReadsAtMost result buffer → ReadConsumes old new result buffer
    → FindsTheEnd (move_of_read result buffer ∷ []) → AreAllOf old (read_in (move_of_read result buffer ∷ []))
read_to_end E old new (Err why) buffer some within consumes finds = absurd (let e = only_move ReadFailed finds in cc)
read_to_end E old new (Ok count) buffer some within consumes finds =
    let none : take count buffer ≡ [] = (let e = only_move (Read (take count buffer)) finds in cc) in
    let no_count : count ≡ 0 = omega (arith, ap length none, within.1) in
    subst (AreAllOf old) (sym (append-nil (take count buffer) ∙ none))
    (all_at_end old new (subst (Consumes old new) none consumes.0) (consumes.1 no_count some))

-- a move that asks for no input finds no end
pub is_no_end : {A : Type 0} (move : Move) → ¬ AsksForInput move → FindsTheEnd (move ∷ []) → A
is_no_end move asks_not finds = absurd (asks_not (subst AsksForInput (sym (only_move move finds)) tt))

pub write_asks_not : {E : Type 0} (result : Result ℕ E) (piece : List ℕ) → ¬ AsksForInput (move_of_write result piece)
write_asks_not (Ok count) piece asks = asks
write_asks_not (Err why) piece asks = asks

-- neither saves anything
pub read_saves_none : (E : Type 0) (known : Option (List Saving)) (result : Result ℕ E) (buffer : List ℕ)
    → Continues known known (saved_in (move_of_read result buffer ∷ []))
read_saves_none E known result buffer = search rules

pub write_saves_none : (E : Type 0) (known : Option (List Saving)) (result : Result ℕ E) (piece : List ℕ)
    → Continues known known (saved_in (move_of_write result piece ∷ []))
write_saves_none E known result piece = search rules

-- such a property holds at each move that asks, of those before it
abbrev pub AtEachAsk : (List Move → Type 0) → List Move → Type 0
AtEachAsk Holds moves = (before : List Move) (ask : Move) (later : List Move) → moves ≡ before ++ ask ∷ later → AsksForInput ask → Holds before

-- two lists, one after the other, are cut at an item of the second or of the first
cut_of_two : (made more before later : List Move) (ask : Move) → made ++ more ≡ before ++ ask ∷ later
    → ((rest : List Move) × (before ≡ made ++ rest) × (more ≡ rest ++ ask ∷ later))
    ⊎ ((rest : List Move) × (made ≡ before ++ ask ∷ rest) × (later ≡ rest ++ more))
cut_of_two [] more before later ask e = inl (before, refl, e)
cut_of_two (m ∷ made) more [] later ask e =
    let same : m ≡ ask = cc in
    let others : made ++ more ≡ later = cc in
    inr (made, rw same refl, sym others)
cut_of_two (m ∷ made) more (b ∷ before) later ask e =
    let same : m ≡ b = cc in
    let others : made ++ more ≡ before ++ ask ∷ later = cc in
    elim (cut_of_two made more before later ask others) [
      | inl found ↦ inl (found.0, rw (same, found.1) refl, found.2)
      | inr found ↦ inr (found.0, rw (same, found.1) refl, found.2)
    ]

module _ (Holds : List Move → Type 0) where
  -- without moves none asks
  pub nothing_asked : AtEachAsk Holds []
  nothing_asked before ask later e asks = absurd (omega (arith, ap length e, length-append before (ask ∷ later)))

  -- one move more, before which it holds where the move asks
  pub one_move : (moves : List Move) (move : Move) → AtEachAsk Holds moves → (AsksForInput move → Holds moves) → AtEachAsk Holds (moves ++ move ∷ [])
  one_move moves move so holds before ask later e asks =
      elim (cut_of_two moves (move ∷ []) before later ask e) [
        | inl found ↦
            let last = only_one move ask found.0 later found.2 in
            subst Holds (sym (found.1 ∙ ap (λ rest. moves ++ rest) last.0 ∙ append-nil moves)) (holds (subst AsksForInput (sym last.1) asks))
        | inr found ↦ so before ask found.0 found.1 asks
      ]
    where
      only_one : (move ask : Move) (rest later : List Move) → move ∷ [] ≡ rest ++ ask ∷ later → (rest ≡ []) × (move ≡ ask)
      only_one move ask [] later is = (refl, cc)
      only_one move ask (first ∷ rest) later is = absurd (omega (arith, ap length is, length-append rest (ask ∷ later)))

  -- writes ask for nothing
  pub writes_more : (moves made : List Move) → AtEachAsk Holds moves → AreWrites made → AtEachAsk Holds (moves ++ made)
  writes_more moves [] so are = subst (AtEachAsk Holds) (sym (append-nil moves)) so
  writes_more moves (move ∷ made) so are =
      subst (AtEachAsk Holds) (append_assoc moves (move ∷ []) made)
      (writes_more (moves ++ move ∷ []) made (one_move moves move so (λ asks. absurd (are.0 asks))) are.1)

-- what was read and written, one list of moves after the other
pub read-append : (moves made : List Move) → read_in (moves ++ made) ≡ read_in moves ++ read_in made
read-append moves made = flat_map-append given_by moves made

pub written-append : (moves made : List Move) → written_in (moves ++ made) ≡ written_in moves ++ written_in made
written-append moves made = flat_map-append written_by moves made

-- writes read nothing
pub nothing_read : (made : List Move) → AreWrites made → read_in made ≡ []
nothing_read [] are = refl
nothing_read (move ∷ made) are = grind (arith, common_steps, gets, nothing_read made)

-- what is known, one list after the other
pub Continues-nothing : {A : Type 0} (known : Option (List A)) → Continues known known []
Continues-nothing known = search rules

Continues-more : {A : Type 0} (old now new : Option (List A)) (made more : List A) → Continues old now made → Continues now new more
    → Continues old new (made ++ more)
Continues-more None now new made more e f = tt
Continues-more (Some old) None new made more e f = absurd e
Continues-more (Some old) (Some now) None made more e f = absurd f
Continues-more (Some old) (Some now) (Some new) made more e f = f ∙ ap (λ its. its ++ more) e ∙ append_assoc old made more

-- the count of such moves goes on
count_more : (is_such : Move → Bool) (old now new : ℕ) (made more : List Move)
    → now ≡ count_on is_such old made → new ≡ count_on is_such now more → new ≡ count_on is_such old (made ++ more)
count_more is_such old now new made more e f = grind (arith, common_steps, gets)

-- ---- the end of the input

-- of writes, one list after the other, each are writes
are_both : (made more : List Move) → AreWrites (made ++ more) → AreWrites made × AreWrites more
are_both [] more are = (tt, are)
are_both (move ∷ made) more are = let both = are_both made more are.1 in ((are.0, both.0), both.1)

-- all of what was left after some moves was read by the later ones
all_later : (old now : Option (List ℕ)) (read more : List ℕ) → Consumes old now read → AreAllOf now more → AreAllOf old (read ++ more)
all_later old now read more consumes all = search rules

pub all_read : (old now : Option (List ℕ)) (made more : List Move) → Consumes old now (read_in made)
    → (FindsTheEnd made → AreAllOf old (read_in made)) → (FindsTheEnd more → AreAllOf now (read_in more))
    → FindsTheEnd (made ++ more) → AreAllOf old (read_in (made ++ more))
all_read old now made more consumes first second (before, later, e, writes) =
    elim (cut_of_two made more before later (Read []) e) [
      | inl found ↦
          subst (AreAllOf old) (sym (read-append made more))
          (all_later old now (read_in made) (read_in more) consumes (second (found.0, later, found.2, writes)))
      | inr found ↦
          let are = are_both found.0 more (subst AreWrites found.2 writes) in
          let none : read_in more ≡ [] = nothing_read more are.1 in
          subst (AreAllOf old) (sym (read-append made more ∙ ap (λ bytes. read_in made ++ bytes) none ∙ append-nil (read_in made)))
          (first (before, found.0, found.1, are.0))
    ]

-- without moves no end was found
no_end : (A : Type 0) → FindsTheEnd [] → A
no_end A (before, later, e, writes) = absurd (omega (arith, ap length e, length-append before (Read [] ∷ later)))

pub Makes-nothing : (known : Known) → Makes known known []
Makes-nothing known = record {
  moves = Continues-nothing known.moves;
  left = Consumes-nil known.left;
  all = no_end _;
  held = Appends-nil known.held;
  saved = Continues-nothing known.saved;
  failed_reads = refl;
  failed_writes = refl;
}

pub Makes-more : (old now new : Known) (made more : List Move) → Makes old now made → Makes now new more → Makes old new (made ++ more)
Makes-more old now new made more e f = record {
  moves = Continues-more old.moves now.moves new.moves made more e.moves f.moves;
  left =
      subst (Consumes old.left new.left) (sym (read-append made more)) (Consumes-trans old.left now.left new.left (read_in made) (read_in more) e.left f.left);
  all = all_read old.left now.left made more e.left e.all f.all;
  held =
      subst (Appends old.held new.held) (sym (flat_map-append said_by made more))
      (Appends-trans old.held now.held new.held (said_in made) (said_in more) e.held f.held);
  saved =
      subst (Continues old.saved new.saved) (sym (flat_map-append saved_by made more))
      (Continues-more old.saved now.saved new.saved (saved_in made) (saved_in more) e.saved f.saved);
  failed_reads = count_more is_failed_read old.failed_reads now.failed_reads new.failed_reads made more e.failed_reads f.failed_reads;
  failed_writes = count_more is_failed_write old.failed_writes now.failed_writes new.failed_writes made more e.failed_writes f.failed_writes;
}

pub EndsWith-more : (IsSuch : Move → Type 0) (moves made : List Move) → EndsWith IsSuch made → EndsWith IsSuch (moves ++ made)
EndsWith-more IsSuch moves made ends =
    (moves ++ ends.0, ends.1, ap (λ more. moves ++ more) ends.2 ∙ sym (append_assoc moves ends.0 (ends.1 ∷ [])), ends.3)

-- ---- a text that is handed over piece by piece

pub says-append : (one other : List ℕ) → says (one ++ other) ≡ says one ++ says other
says-append one other = map-append byte one other

-- the first bytes of the text were taken
pub record HasWritten (old now : Known) (text : List ℕ) (done : ℕ) : Type 0 where
  pub made : List Move
  pub makes : Makes old now made
  pub writes : AreWrites made
  pub written : written_in made ≡ says (take done text)

AreWrites-append : (made more : List Move) → AreWrites made → AreWrites more → AreWrites (made ++ more)
AreWrites-append made more are others = all-append (λ move. ¬ AsksForInput move) made more are others

pub nothing_said : (old : Known) (text : List ℕ) → HasWritten old old text 0
nothing_said old text = record { made = []; makes = Makes-nothing old; writes = tt; written = refl }

module _ (old now new : Known) (text : List ℕ) (done : ℕ) (so : HasWritten old now text done) where
  -- one piece more
  pub piece_said : (count : ℕ) → Makes now new (Wrote (take count (take (length text - done) (drop done text))) ∷ []) → HasWritten old new text (done + count)
  piece_said count more =
      let piece : take count (take (length text - done) (drop done text)) ≡ take count (drop done text) = ap (take count) (take_rest text done) in
      let last : List Move = Wrote (take count (take (length text - done) (drop done text))) ∷ [] in
      record {
        made = so.made ++ last;
        makes = Makes-more old now new so.made last so.makes more;
        writes = AreWrites-append so.made last so.writes ((λ asks. asks), tt);
        written =
            written-append so.made last ∙ ap (λ front. front ++ written_in last) so.written
            ∙ ap (λ behind. says (take done text) ++ behind) (append-nil _ ∙ ap says piece)
            ∙ sym (ap says (take-add done count text) ∙ says-append (take done text) (take count (drop done text)));
      }

  -- the writing failed
  pub cut_off : (A E : Type 0) (e : E) (move : Move) → FailsToWrite move → (AsksForInput move → ⊥)
      → written_by move ≡ [] → Makes now new (move ∷ []) → WritesAll {A = A} (Err e) old new (says text)
  cut_off A E e move fails no_ask none more = (
    so.made ++ move ∷ [],
    Makes-more old now new so.made (move ∷ []) so.makes more,
    AreWrites-append so.made (move ∷ []) so.writes (no_ask, tt),
    (
      says (drop done text),
      ap says (sym (take-append-drop done text)) ∙ says-append (take done text) (drop done text)
          ∙ ap (λ front. front ++ says (drop done text))
          (sym so.written ∙ sym (append-nil (written_in so.made))
          ∙ ap (λ behind. written_in so.made ++ behind) (sym (append-nil (written_by move) ∙ none)) ∙ sym (written-append so.made (move ∷ []))),
      (so.made, move, refl, fails),
    ),
  )

-- one after the other
pub both_said : (A E : Type 0) (old now new : Known) (one other : List Output) (B F : Type 0) (r : Result B F) (a : A) → WritesAll {E = E} (Ok a) old now one
    → WritesAll r now new other → WritesAll r old new (one ++ other)
both_said A E old now new one other B F (Ok b) a (made, makes, writes, is) (more, makes_more, writes_more, is_more) = (
  made ++ more,
  Makes-more old now new made more makes makes_more,
  AreWrites-append made more writes writes_more,
  written-append made more ∙ ap (λ outputs. outputs ++ written_in more) is ∙ ap (λ outputs. one ++ outputs) is_more,
)
both_said A E old now new one other B F (Err f) a (made, makes, writes, is) (more, makes_more, writes_more, (missing, said, fails)) = (
  made ++ more,
  Makes-more old now new made more makes makes_more,
  AreWrites-append made more writes writes_more,
  (
    missing,
    ap (λ outputs. one ++ outputs) said ∙ sym (append_assoc one (written_in more) missing)
        ∙ ap (λ outputs. outputs ++ missing) (ap (λ outputs. outputs ++ written_in more) (sym is) ∙ sym (written-append made more)),
    EndsWith-more FailsToWrite made more fails,
  ),
)

module _ (A E : Type 0) (old now new : Known) (one other : List ℕ) where
  pub both_texts_said : (B F : Type 0) (r : Result B F) (a : A) → WritesAll {E = E} (Ok a) old now (says one)
      → WritesAll r now new (says other) → WritesAll r old new (says (one ++ other))
  both_texts_said B F r a first then =
      subst (WritesAll r old new) (sym (says-append one other)) (both_said A E old now new (says one) (says other) B F r a first then)

  -- the first was not said whole
  pub first_text_cut_off : (B F : Type 0) (e : E) (f : F) → WritesAll {A = A} (Err e) old now (says one)
      → WritesAll {A = B} (Err f) old now (says (one ++ other))
  first_text_cut_off B F e f (made, makes, writes, (missing, said, fails)) = (
    made,
    makes,
    writes,
    (
      missing ++ says other,
      says-append one other ∙ ap (λ outputs. outputs ++ says other) said ∙ append_assoc (written_in made) missing (says other),
      fails,
    ),
  )

-- a file, and a text after it
pub file_and_text : (A E : Type 0) (r : Result A E) (old now new : Known) (saving : Saving) (text : List ℕ) → Makes old now (Saves saving ∷ [])
    → WritesAll r now new (says text) → WritesAll r old new (file saving ∷ says text)
file_and_text A E r old now new saving text makes said =
    both_said (Unit {0}) (Unit {0}) old now new (file saving ∷ []) (says text) A E r tt (Saves saving ∷ [], makes, ((λ asks. asks), tt), refl) said
