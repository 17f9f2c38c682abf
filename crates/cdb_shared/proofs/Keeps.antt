-- Each step on the queue of the turn keeps the rule.
use Rattle.std.proofs.lemmas.Grind.{common_steps}
use Rattle.std.proofs.lemmas.Option.{gets}
use Rattle.std.proofs.Common.{◌≡◌, ◌≢◌, inl, inr, ℕ, zero, suc, ◌+◌, ◌<◌, ◌≤◌, ◌==◌, cond, Bool, List, [], ◌∷◌, ◌++◌, set, take, drop}
use Rattle.std.proofs.Common.{refl, sym, ap, ◌∙◌, subst, ⊎_elim, arith}
use Rattle.std.proofs.lemmas.Bool.Decides.{nat_tests}
use Rattle.std.proofs.lemmas.List.{nil_from_length}
use mathlib.Core.Option.{some, some-ne-none, some-injective}
use lib.ListN.{get_elem?}
use Rattle.crossbeam_queue.specs.Fifo.{Pushes, Pops, Forks, Merges, Learns}
use Rattle.crossbeam_queue.proofs.Lists.{at_set, at_snoc, set_else}
use Rattle.cdb_commands.specs.declared.command.Command.{Command}
use Rattle.cdb_control.specs.Journal.{Journaled, entry}
use Rattle.cdb_control.proofs.Own.{Begins-refl, Begins-push, own-push_other}
use Rattle.cdb_rules.proofs.Alls.{all-append, all-take}
use Rattle.cdb_shared.specs.declared.knowledge.Stage.{Stage}
use Rattle.cdb_shared.specs.declared.knowledge.Stage.TheVariants.{Opening, Resting, Holding}
use Rattle.cdb_shared.specs.declared.knowledge.KnownSeat.{KnownSeat}
use Rattle.cdb_shared.specs.declared.knowledge.Story.{Story}
use Rattle.cdb_shared.specs.declared.knowledge.Knowledge.{Knowledge}
use Rattle.cdb_shared.specs.Turn.{story, longer, opening, spent, resting, holding, Knows, AllKnow, HoldsOnly, Fits, turns_at, turn_count, seats_among}
use Rattle.cdb_shared.specs.Turn.{seat_count, total_of, Turns, IsRuled, known_seats_from, watch_and_seats}
use Rattle.cdb_shared.specs.Turn.{seen_by, TurnTaken, TurnGiven, MayGrow, MayFollow, MayGive}
use Rattle.cdb_shared.specs.Turn.{seats_after, NoneWaits, without_first, first_alone, joined_pass}

-- at the start there is one pass, and nothing in the queue
pub begins : IsRuled [] (opening ∷ [])
begins = inl (refl, refl)

-- the one view of a list
only_view : (only : Knowledge) (views : List Knowledge) (pass : ℕ) (v : Knowledge) → views ≡ only ∷ [] → get_elem? views pass ≡ some v → (pass ≡ 0) × (v ≡ only)
only_view only views pass v is at = grind (arith, common_steps, gets)

-- a fact of each view, after one of them has changed
each_set : (P : Knowledge → Type 0) (views : List Knowledge) (pass : ℕ) (w : Knowledge) → P w
    → ((j : ℕ) (u : Knowledge) → j ≢ pass → get_elem? views j ≡ some u → P u) → (j : ℕ) (u : Knowledge) → get_elem? (set views pass w) j ≡ some u → P u
each_set P views pass w mine others j u e =
    ⊎_elim (λ (x : (j ≡ pass) × (w ≡ u)). subst P x.1 mine)
    (λ (x : (j ≢ pass) × (get_elem? views j ≡ some u)). others j u x.0 x.1)
    (at_set views pass j w u e)

module _ (count : Knowledge → ℕ) where
  total_set : (views : List Knowledge) (pass : ℕ) (v w : Knowledge) → get_elem? views pass ≡ some v
      → total_of count (set views pass w) + count v ≡ total_of count views + count w
  total_set [] pass v w e = absurd (some-ne-none v (sym e))
  total_set (x ∷ xs) zero v w e = let same = ap count (some-injective x v e) in omega arith
  total_set (x ∷ xs) (suc i) v w e = let rest = total_set xs i v w e in omega arith

  total_push : (views : List Knowledge) (w : Knowledge) → total_of count (views ++ w ∷ []) ≡ total_of count views + count w
  total_push [] w = omega arith
  total_push (x ∷ xs) w = let rest = total_push xs w in omega arith

  -- what two passes have
  total_two : (views : List Knowledge) (i j : ℕ) (v u : Knowledge) → count spent ≡ 0 → j ≢ i → get_elem? views i ≡ some v
      → get_elem? views j ≡ some u → count v + count u ≤ total_of count views
  total_two views i j v u none apart e f =
      let one = total_set views i v spent e in
      let both = total_set (set views i spent) j u spent (set_else views i j spent apart ∙ f) in
      omega arith

-- the seats with a number
among_append : (n : ℕ) (ps qs : List KnownSeat) → seats_among n (ps ++ qs) ≡ seats_among n ps + seats_among n qs
among_append n [] qs = omega arith
among_append n (p ∷ ps) qs = let rest = among_append n ps qs in omega arith

among_seen : (n : ℕ) (c : Story) (ps : List KnownSeat) → seats_among n (seen_by c ps) ≡ seats_among n ps
among_seen n c [] = refl
among_seen n c (p ∷ ps) = let rest = among_seen n c ps in omega arith

among_parts : (n : ℕ) (ps : List KnownSeat) → seats_among n (drop 1 ps) + seats_among n (take 1 ps) ≡ seats_among n ps
among_parts n ps = grind (arith, common_steps, gets)

among_alone : (p : KnownSeat) → seats_among p.number (p ∷ []) ≡ 1
among_alone p = grind (arith, common_steps, gets)

one_more : (b : Bool) (first n rest : ℕ) → (first == n) ≡ b → rest ≤ 1 → (n ≤ first → rest ≡ 0) → (cond b 1 0 + rest ≤ 1) × (n < first → cond b 1 0 + rest ≡ 0)
one_more b first n rest is few none = grind (arith, nat_tests)

among_from : (n first many : ℕ) (c : Story)
    → (seats_among n (known_seats_from c first many) ≤ 1) × (n < first → seats_among n (known_seats_from c first many) ≡ 0)
among_from n first zero c = (omega arith, λ low. refl)
among_from n first (suc many) c =
    let rest = among_from n (first + 1) many c in one_more (first == n) first n _ refl rest.0 (λ low. rest.1 (omega arith))

AllKnow-from : (first many : ℕ) (c : Story) → AllKnow c (known_seats_from c first many)
AllKnow-from first zero c = tt
AllKnow-from first (suc many) c = (record { setup = refl; seats = refl; begins = Begins-refl c.journal; calls = refl }, AllKnow-from (first + 1) many c)

-- what the seats of a pass know of what it gives back
AllKnow-seen : (before after : Story) (ps : List KnownSeat) → (after.setup ≡ before.setup) × (after.seats ≡ before.seats)
    → AllKnow before ps → AllKnow after (seen_by after ps)
AllKnow-seen before after [] same all = tt
AllKnow-seen before after (p ∷ ps) same all = (
  record { setup = same.0 ∙ all.0.setup; seats = same.1 ∙ all.0.seats; begins = Begins-refl after.journal; calls = refl },
  AllKnow-seen before after ps same all.1,
)

grown_parts : (ps : List KnownSeat) (before after : Story) → MayGrow ps before after → (after.setup ≡ before.setup) × (after.seats ≡ before.seats)
grown_parts ps before after (inl same) = (ap (λ (c : Story). c.setup) same, ap (λ (c : Story). c.seats) same)
grown_parts ps before after (inr (p, command, is, longer)) = (ap (λ (c : Story). c.setup) longer, ap (λ (c : Story). c.seats) longer)

apart_from : (number n rest : ℕ) → cond (number == n) 1 0 + rest ≡ 0 → n ≢ number
apart_from number n rest is = grind (arith, common_steps, gets)

-- a command of a seat that isn't among these
AllKnow-push : (c : Story) (ps : List KnownSeat) (seat : ℕ) (command : Command) → seats_among seat ps ≡ 0 → AllKnow c ps → AllKnow (longer c seat command) ps
AllKnow-push c [] seat command none a = tt
AllKnow-push c (p ∷ ps) seat command none a =
    let apart = apart_from p.number seat (seats_among seat ps) none in (
      record {
        setup = a.0.setup;
        seats = a.0.seats;
        begins = Begins-push p.seen c.journal (entry seat command) a.0.begins;
        calls = own-push_other p.number seat c.journal command apart ∙ a.0.calls;
      },
      AllKnow-push c ps seat command (omega arith) a.1,
    )

-- what other seats know still holds after the journal has grown
AllKnow-grown : (ps qs : List KnownSeat) (before after : Story) → MayGrow ps before after → ((k : ℕ) → seats_among k ps + seats_among k qs ≤ 1)
    → AllKnow before qs → AllKnow after qs
AllKnow-grown ps qs before after (inl same) once all = subst (λ (c : Story). AllKnow c qs) (sym same) all
AllKnow-grown ps qs before after (inr (p, command, is, longer)) once all =
    let mine : seats_among p.number ps ≡ 1 = ap (seats_among p.number) is ∙ among_alone p in
    let few = once p.number in
    subst (λ (c : Story). AllKnow c qs) (sym longer) (AllKnow-push before qs p.number command (omega arith) all)

-- where a pass rests, the opening is over
running : {items : List Journaled} {views : List Knowledge} (pass : ℕ) {v : Knowledge} → v.stage ≡ Resting → IsRuled items views
    → get_elem? views pass ≡ some v → Turns items views
running {views = views} pass {v} rests (inl start) at =
    let e : Resting ≡ Opening = sym rests ∙ ap (λ (u : Knowledge). u.stage) (only_view opening views pass v start.1 at).1 in absurd (cc)
running pass rests (inr t) at = t

-- the turn is taken
pub takes : (pass : ℕ) (v : Knowledge) → v.stage ≡ Resting → Pops IsRuled pass v (λ x w. TurnTaken v x w)
takes pass v rests x items views ruled at =
    let t = running pass rests ruled at in
    let w = holding v.known_seats (story x) in
    let fits = t.each pass v at in (
      w,
      inr (record {
        control = t.control;
        waits = t.waits.1;
        each = each_set (Fits t.control) views pass w (record { known = fits.known; held = t.waits.0 }) (λ j u apart e. t.each j u e);
        turn = omega (arith, total_set turn_count views pass v w at, ap turns_at rests, t.turn);
        once = λ k. omega (arith, total_set (seat_count k) views pass v w at, t.once k);
      }),
      (refl, subst (λ (c : Story). AllKnow c v.known_seats) (sym t.waits.0) fits.known),
    )

-- what a pass may give, by its stage
follows : (stage : Stage) (ps : List KnownSeat) (before c : Story) → HoldsOnly before stage → MayFollow stage ps c
    → (turns_at stage ≡ 1) × MayGrow ps before c × (seats_after stage ps c ≡ seen_by c ps)
follows Opening ps before c held may = absurd held
follows Resting ps before c held may = absurd may
follows (Holding was) ps before c held may = (refl, subst (λ (s : Story). MayGrow ps s c) held may, refl)

has_turn : (stage : Stage) (ps : List KnownSeat) (c : Story) → MayFollow stage ps c → turns_at stage ≡ 1
has_turn Opening ps c may = refl
has_turn Resting ps c may = absurd may
has_turn (Holding was) ps c may = refl

holds_none : (c : Story) (stage : Stage) → turns_at stage ≡ 0 → HoldsOnly c stage
holds_none c Opening none = absurd (omega (arith, none))
holds_none c Resting none = tt
holds_none c (Holding was) none = absurd (omega (arith, none))

-- while a pass has the turn, no control stands in the queue
pub none_waits : (pass : ℕ) (v : Knowledge) (c : Journaled) → MayGive v c → Learns IsRuled pass v (λ items. NoneWaits v items)
none_waits pass v c may items views (inl start) at = start.0
none_waits pass v c may items views (inr t) at =
    nil_from_length items (omega (arith, total_set turn_count views pass v spent at, has_turn v.stage v.known_seats (story c) may, t.turn))

-- the first pass has given the control that was handed in
opened_turns : (c : Journaled) → Turns (c ∷ []) (resting (watch_and_seats (story c)) ∷ [])
opened_turns c =
    let w = resting (watch_and_seats (story c)) in
    record {
      control = story c;
      waits = (refl, tt);
      each = λ j u e. subst (Fits (story c)) (sym (only_view w (w ∷ []) j u refl e).1) (record { known = AllKnow-from 0 (suc c.seats) (story c); held = tt });
      turn = refl;
      once = λ k. omega (arith, (among_from k 0 (suc c.seats) (story c)).0);
    }

-- the turn is given back: by the first pass with the control that is handed in, by any other with the one that it took, or
-- that with one command more
pub gives : (n pass : ℕ) (v : Knowledge) (c : Journaled) → MayGive v c → Pushes IsRuled n pass v c (λ w. TurnGiven v c w)
gives n pass v c may items views room (inl (none, alone)) at =
    let first = only_view opening views pass v alone at in
    rw (none, alone, first.0, first.1) (resting (watch_and_seats (story c)), inr (opened_turns c), refl)
gives n pass v c may items views room (inr t) at =
    let k = story c in
    let w = resting (seen_by k v.known_seats) in
    let fits = t.each pass v at in
    let next = follows v.stage v.known_seats t.control k fits.held may in
    let total = total_set turn_count views pass v w at in (
      w,
      inr (rw (none_waits pass v c may items views (inr t) at) (record {
        control = k;
        waits = (refl, tt);
        each = each_set (Fits k) views pass w
            (record { known = AllKnow-seen t.control k v.known_seats (grown_parts v.known_seats t.control k next.1) fits.known; held = tt })
            (λ j u apart e. record {
              known = AllKnow-grown v.known_seats u.known_seats t.control k next.1
                  (λ m. omega (arith, total_two (seat_count m) views pass j v u refl apart at e, t.once m)) (t.each j u e).known;
              held = holds_none k u.stage (omega (arith, total_two turn_count views pass j v u refl apart at e, next.0, t.turn));
            });
        turn = omega (arith, total, next.0, t.turn);
        once = λ m. omega (arith, total_set (seat_count m) views pass v w at, t.once m, among_seen m k v.known_seats);
      })),
      ap resting (sym next.2),
    )

-- the first seat of a pass gets a pass of its own
pub forks : (pass : ℕ) (v : Knowledge) → v.stage ≡ Resting → Forks IsRuled pass v (without_first v) (first_alone v)
forks pass v rests items views ruled at =
    let t = running pass rests ruled at in
    let left = without_first v in
    let right = first_alone v in
    let fits = t.each pass v at in
    let was =
    each_set (Fits t.control) views pass left (record { known = all-drop t.control v.known_seats fits.known; held = tt }) (λ j u apart e. t.each j u e) in
    let moved = λ (count : Knowledge → ℕ). total_set count views pass v left at in
    let added = λ (count : Knowledge → ℕ). total_push count (set views pass left) right in
    inr (record {
      control = t.control;
      waits = t.waits;
      each = λ j u e. ⊎_elim (λ there. was j u there)
          (λ (is : right ≡ u). subst (Fits t.control) is (record { known = all-take (Knows t.control) 1 v.known_seats fits.known; held = tt }))
          (at_snoc (set views pass left) right u j e);
      turn = omega (arith, moved turn_count, added turn_count, ap turns_at rests, t.turn);
      once = λ k. omega (arith, moved (seat_count k), added (seat_count k), among_parts k v.known_seats, t.once k);
    })
  where
    all-drop : (c : Story) (ps : List KnownSeat) → AllKnow c ps → AllKnow c (drop 1 ps)
    all-drop c [] all = tt
    all-drop c (p ∷ ps) all = all.1

-- a pass takes in the seats of another
pub merges : {pass : ℕ} {v : Knowledge} {other : ℕ} {u : Knowledge} → v.stage ≡ Resting → u.stage ≡ Resting
    → Merges IsRuled pass v other u (joined_pass v u) spent
merges {pass} {v} {other} {u} rests rests' items views ruled at apart at' =
    let t = running pass rests ruled at in
    let both = joined_pass v u in
    let there = t.each other u (sym (set_else views pass other both apart) ∙ at') in
    let was = each_set (Fits t.control) views pass both
    (record { known = all-append (Knows t.control) u.known_seats v.known_seats there.known (t.each pass v at).known; held = tt })
    (λ j y _ e. t.each j y e) in
    let moved = λ (count : Knowledge → ℕ). total_set count views pass v both at in
    let emptied = λ (count : Knowledge → ℕ). total_set count (set views pass both) other u spent at' in
    inr (record {
      control = t.control;
      waits = t.waits;
      each = each_set (Fits t.control) (set views pass both) other spent (record { known = tt; held = tt }) (λ j y _ e. was j y e);
      turn = omega (arith, moved turn_count, emptied turn_count, ap turns_at rests, ap turns_at rests', t.turn);
      once = λ k. omega (arith, moved (seat_count k), emptied (seat_count k), among_append k u.known_seats v.known_seats, t.once k);
    })
