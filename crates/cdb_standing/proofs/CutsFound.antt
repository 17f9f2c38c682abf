-- Numbers that are moved on until what they mean is closed: a step with its consequences, and its past.
use Rattle.std.proofs.lemmas.Grind.{common_steps}
use Rattle.std.proofs.lemmas.Bool.{cases_eq}
use Rattle.std.proofs.Common.{◌≡◌, ◌≢◌, ℕ, suc, ◌+◌, ◌<◌, ◌≤◌, Bool, true, false, cond, List, length, set, slice_index, length-set, replicate, ◌-◌, Option}
use Rattle.std.proofs.Common.{Some, None, ◌⊎◌, inl, inr, ⊎_elim, refl, sym, ◌∙◌, arith, ◌↔◌, subst}
use Rattle.std.proofs.lemmas.Option.{gets}
use Rattle.std.proofs.lemmas.List.Sums.{sum_by-set}
use Rattle.std.specs.List.{sum_by}
use Rattle.cdb_base.specs.Event.{event_name}
use Rattle.cdb_base.specs.declared.event.Event.{Event}
use Rattle.cdb_base.specs.declared.event.Kind.{Kind}
use Rattle.cdb_base.specs.declared.name.CopyName.{CopyName}
use Rattle.cdb_base.specs.declared.name.StepName.{StepName}
use Rattle.cdb_standing.specs.Cuts.{cut_of, IsCut, IsReached, IsMeant, IsOnward, Leads, IsLed, IsSoundCut, KeepsSoundCut, StaysSoundCut, HasNoneBehind}
use Rattle.cdb_standing.specs.Cuts.{IsNearest, IsClosedOf, IsClosedAt, IsLookedAt, IsClosedFrom, IsWider, AreFew, HasNoneMeant, moved, AreMoved, room}
use Rattle.cdb_standing.specs.Cuts.{AreCuts, AreCutsOf, IsOpenAt}
use Rattle.cdb_standing.specs.Dependents.{IsDependent, Needs, IsFoundOf, is_shared}
use Rattle.cdb_standing.specs.Gathered.{IsOf}
use Rattle.cdb_standing.specs.Tables.{steps_of, row_of, sent_of, entry_of, IsEntry, IsMessage, IsSound, history_in, Stands}
use Rattle.cdb_standing.specs.declared.dependents.Found.{Found}
use Rattle.cdb_standing.specs.declared.tables.Tables.{Tables}
use Rattle.cdb_standing.proofs.Links.{why, number_le, number_below, process_within, loss_dependent, same_entry}
use Rattle.cdb_standing.proofs.Places.{is_step, at_once, reached_on, own_reached, IsPlace, the_place}
use Rattle.cdb_standing.proofs.Places.{stands_at, event_in, mark_at, dependent_of, one_name, itself}
use Rattle.cdb_standing.proofs.Rows.{nth_within, same_at}
use Rattle.cdb_base.specs.Positions.{nth}
use Rattle.cdb_base.specs.declared.event.Kind.TheVariants.{Send}
use Rattle.cdb_causal.specs.Causality.{IsLink, IsConsequence, IsDirectCause, direct, onward}
use Rattle.cdb_causal.specs.Dependence.{depends}
use Rattle.cdb_causal.specs.Rollback.{IsRolledBack}
use Rattle.cdb_causal.specs.Past.{HasLedTo}
use Rattle.cdb_standing.specs.Causes.{IsLastCauseOrNone}
use Rattle.cdb_causal.specs.Names.{IsNamedAt}
use Rattle.cdb_standing.specs.LedTo.{IsUpTo}
use Rattle.cdb_causal.proofs.PastLaws.{turned_round, by_causes}
use Rattle.cdb_base.specs.declared.event.Event.TheVariants as event
use Rattle.cdb_base.specs.declared.name.StepId.TheVariants as named

-- ---- a number that is moved on

moved_cases : (forward : Bool) (p : ℕ) (found : Option ℕ) (q n : ℕ)
    → (moved forward p found q n ≡ n) ⊎ ((l : ℕ) × (found ≡ Some l) × (q ≡ p) × (moved forward p found q n ≡ l))
moved_cases forward p found q n = grind (arith, common_steps, gets)

moved_wider : (forward : Bool) (p : ℕ) (found : Option ℕ) (q n l : ℕ) → IsOnward forward n l → IsOnward forward (moved forward p found q n) l
moved_wider true p found q n l le = grind (arith, common_steps, gets)
moved_wider false p found q n l le = grind (arith, common_steps, gets)

moved_far : (forward : Bool) (p m n l : ℕ) → IsOnward forward m l → IsOnward forward (moved forward p (Some m) p n) l
moved_far true p m n l le = grind (arith, common_steps, gets)
moved_far false p m n l le = grind (arith, common_steps, gets)

-- from a number that is not yet as far as another, the next one
pub record IsNextTo (forward : Bool) (cut n l : ℕ) : Type 0 where
  pub meant : IsOnward forward cut l
  pub short : l ≤ 65535
  pub few : l ≤ cond forward 65536 65535
  pub fewer : cond forward l (65536 - l) < cond forward n (65536 - n)
  pub further : (m : ℕ) → IsOnward forward l m → IsOnward forward n m ⊎ (m ≡ l)

next_to : (forward : Bool) (cut n l : ℕ) → l ≡ cond forward (n - 1) (n + 1) → IsOnward forward cut n → cut ≢ n
    → cut ≤ cond forward 65536 65535 → n ≤ cond forward 65536 65535 → IsNextTo forward cut n l
next_to true cut n l is le other few most =
    record { meant = omega arith; short = omega arith; few = omega arith; fewer = omega arith; further = λ m on. grind arith }
next_to false cut n l is le other few most =
    record { meant = omega arith; short = omega arith; few = omega arith; fewer = omega arith; further = λ m on. grind arith }

onward_refl : (forward : Bool) (n : ℕ) → IsOnward forward n n
onward_refl true n = omega arith
onward_refl false n = omega arith

few_of : (forward : Bool) (k : ℕ) → k ≤ 65535 → k ≤ cond forward 65536 65535
few_of true k few = omega arith
few_of false k few = few

onward_past : (forward : Bool) (n k l : ℕ) → (IsOnward forward n k → ⊥) → IsOnward forward n l → IsOnward forward k l
onward_past true n k l past on = grind (arith, past)
onward_past false n k l past on = grind (arith, past)

module _ {t : Tables} (sound : IsSound t) where
  number_few : (q l a : ℕ) (kind : Kind) → IsEntry t q l a kind → l ≤ 65535
  number_few q l a kind at = let high = (nth_within (row_of (steps_of t) q) l (entry_of a kind) at).1 in let few = sound.few q in omega arith

  -- ---- a chain of dependences, forward or back

  ends_of : (forward : Bool) (one it : Event) (a b : ℕ) → Leads forward t one a b it → Stands t a one × Stands t b it × IsLed forward t one a b it
  ends_of true one it a b d = (d.cause, d.effect, at_once sound d)
  ends_of false one it a b d = (d.effect, d.cause, at_once sound d)

  led_on : (forward : Bool) (one it other : Event) (a b c : ℕ) → Stands t b it → IsLed forward t one a b it → IsLed forward t it b c other
      → IsLed forward t one a c other
  led_on true one it other a b c stands first second = reached_on sound stands first second
  led_on false one it other a b c stands first second = reached_on sound stands second first

  own_led : (forward : Bool) (q j l a b : ℕ) (kind other : Kind) → IsEntry t q j a kind → IsEntry t q l b other → IsOnward forward j l
      → IsLed forward t (event.Step q j kind) a b (event.Step q l other)
  own_led true q j l a b kind other here there le = own_reached sound q j l a b kind other here there le
  own_led false q j l a b kind other here there le = own_reached sound q l j b a other kind there here le

  -- ---- the nearest step of another process

  module _ (p k mark : ℕ) (kind : Kind) (r : ℕ) (apart : p ≢ r) where
    abbrev This : Event
    This = event.Step p k kind

    -- what depends on it of another process needs what it did
    needed : {b j : ℕ} {other : Kind} → IsDependent t This mark b (event.Step r j other) → Needs This (event.Step r j other)
    needed d = ⊎_elim (λ own. absurd (apart own)) (λ needs. needs) (why sound d)

    pub none_nearest : IsFoundOf t This mark r None → IsNearest true t This mark r None
    none_nearest none l b other d = none b (event.Step r l other) (d, refl, needed d)

    pub step_nearest : (f : Found) (step : StepName) → IsFoundOf t This mark r (Some f) → f.name ≡ named.Step step
        → IsNearest true t This mark r (Some step.k)
    step_nearest f step is e = let it = is_step is.event step.p step.k (is.named ∙ e) in by step.p it.0 it.1
      where
        by : (q : ℕ) (some : Kind) → is.event ≡ event.Step q step.k some → IsNearest true t This mark r (Some step.k)
        by q some it =
            let r_is = rw it at is.is.1 in
            let d = rw (it, r_is) at is.is.0 in (
              f.mark,
              some,
              d,
              (λ l b other dep.
                  number_le sound r step.k l f.mark b some other d.effect dep.effect (is.least b (event.Step r l other) (dep, refl, needed dep))),
            )

    pub last_nearest : (found : Option ℕ) → IsLastCauseOrNone t This mark r found → IsNearest false t This mark r found
    last_nearest None none = none
    last_nearest (Some m) last =
        (last.0, last.1, last.2.is, (λ l b other d. number_le sound r l m b last.0 other last.1 d.cause last.2.is.cause (last.2.last l b other d)))

  -- ---- one number moved on to it

  module _ (forward : Bool) (it : Event) (b q : ℕ) (found : Option ℕ) (near : IsNearest forward t it b q found)
      (old new : List ℕ) (are : AreMoved forward q found old new) where
    moved_sound : KeepsSoundCut forward t b it old new
    moved_sound one a led was r l c kind at meant =
        elim (moved_cases forward q found r (cut_of old r)) [
          | inl e ↦ was r l c kind at (rw (are r, e) at meant)
          | inr h ↦ up_to h.0 h.2 (rw h.1 at near) (rw (are r, h.3) at meant)
        ]
      where
        up_to : (m : ℕ) → r ≡ q → IsNearest forward t it b q (Some m) → IsOnward forward m l → IsLed forward t one a c (event.Step r l kind)
        up_to m r_is near on =
            let ends = ends_of forward it (event.Step q m near.1) b near.0 near.2 in
            rw r_is
            (led_on forward one (event.Step q m near.1) (event.Step q l kind) a near.0 c ends.1
            (led_on forward one it (event.Step q m near.1) a b near.0 ends.0 led ends.2)
            (own_led forward q m l near.0 c near.1 kind ends.1 (rw r_is at at) on))

    moved_closed : IsClosedOf forward t it b q new
    moved_closed l c kind d = rw (are q) (by found near)
      where
        by : (found : Option ℕ) → IsNearest forward t it b q found → IsOnward forward (moved forward q found q (cut_of old q)) l
        by None none = absurd (none l c kind d)
        by (Some m) near = moved_far forward q m (cut_of old q) l (near.3 l c kind d)

    moved_few : AreFew forward old → AreFew forward new
    moved_few few r =
        rw (are r) (elim (moved_cases forward q found r (cut_of old r)) [
          | inl e ↦ rw e (few r)
          | inr h ↦ (let near = rw h.1 at near in
              let low = number_few q h.0 near.0 near.1 (ends_of forward it (event.Step q h.0 near.1) b near.0 near.2).1 in rw h.3 (few_of forward h.0 low))
        ])

    pub moved_on : KeepsSoundCut forward t b it old new × IsClosedOf forward t it b q new × IsWider forward old new × (AreFew forward old → AreFew forward new)
    moved_on = (moved_sound, moved_closed, (λ r l meant. rw (are r) (moved_wider forward q found r (cut_of old r) l meant)), moved_few)

  -- ---- those to which a step leads

  -- those of its own process, where it is meant itself
  pub own_closed : (forward : Bool) (p k mark : ℕ) (kind : Kind) (cuts : List ℕ) → IsMeant forward cuts p k
      → IsClosedOf forward t (event.Step p k kind) mark p cuts
  own_closed true p k mark kind cuts own l b other d = let more = number_below sound p k l mark b kind other d.cause d.effect d.later in omega arith
  own_closed false p k mark kind cuts own l b other d = let less = number_below sound p l k b mark other kind d.cause d.effect d.later in omega arith

  -- only its own process depends on what a step that is not shared did
  pub unshared_closed : (p k mark : ℕ) (kind : Kind) → is_shared kind ≡ false → (cuts : List ℕ) → cut_of cuts p ≤ k
      → IsClosedAt true t (event.Step p k kind) mark 9 cuts
  unshared_closed p k mark kind alone cuts own r nine l b other d =
      let is = why sound d in let here = own_closed true p k mark kind cuts own l b other in grind (arith, common_steps, gets)

  -- the step before a number does not stand behind the mark, and so no step before it does
  pub none_behind : (q cut a mark : ℕ) (kind : Kind) → IsEntry t q (cut - 1) a kind → a ≤ mark → HasNoneBehind t q cut mark
  none_behind q cut a mark kind at le l b other there later = let above = number_below sound q (cut - 1) l a b kind other at there (omega arith) in omega arith

  -- the steps of one process more are meant
  pub one_more_closed : (forward : Bool) (one : Event) (mark top r : ℕ) (old new : List ℕ) → r ≡ top + 1
      → IsWider forward old new → IsClosedOf forward t one mark r new → IsClosedAt forward t one mark top old
      → IsClosedAt forward t one mark (top + 1) new
  one_more_closed forward one mark top r old new r_is wider here was q le l b other d =
      elim (cases_eq q r) [ inl e ↦ rw e (here l b other (rw e at d)) | inr apart ↦ wider q l (was q (omega arith) l b other d) ]

-- ---- numbers in an array

pub cut_at : (cuts : List ℕ) (i : ℕ) → cut_of cuts (suc i) ≡ slice_index cuts i
cut_at cuts i = grind (arith, common_steps, gets)

pub cut_set : (cuts : List ℕ) (i n : ℕ) → i < length cuts → cut_of (set cuts i n) (suc i) ≡ n
cut_set cuts i n less = grind (arith, common_steps, gets)

pub cut_set_other : (cuts : List ℕ) (i n q : ℕ) → q ≢ suc i → cut_of (set cuts i n) q ≡ cut_of cuts q
cut_set_other cuts i n q other = grind (arith, common_steps, gets)

-- one number set: it is that one, or it is as it was
pub set_cases : (cuts : List ℕ) (i n q : ℕ) → i < length cuts
    → ((q ≡ suc i) × (cut_of (set cuts i n) q ≡ n) × (cut_of cuts q ≡ slice_index cuts i)) ⊎ (cut_of (set cuts i n) q ≡ cut_of cuts q)
set_cases cuts i n q less = grind (arith, common_steps, gets)

pub zeros : (n q : ℕ) → cut_of (replicate n 0) q ≡ 0
zeros n q = grind (arith, common_steps, gets)

pub sum_falls : (f : ℕ → ℕ) (xs : List ℕ) (i n : ℕ) → i < length xs → f n < f (slice_index xs i) → sum_by f (set xs i n) < sum_by f xs
sum_falls f xs i n within less = omega (arith, sum_by-set f xs i n 0 within)

-- ---- all numbers

-- what holds while numbers are moved on
pub record IsCutting (forward : Bool) (t : Tables) (p k mark : ℕ) (kind : Kind) (looked cuts : List ℕ) : Type 0 where
  pub sound : IsSoundCut forward t (event.Step p k kind) mark cuts
  pub closed : IsClosedFrom forward t looked cuts
  pub wider : IsWider forward looked cuts
  pub looked_few : AreFew forward looked
  pub few : AreFew forward cuts
  pub long : length looked ≡ 9
  pub rooted : IsMeant forward cuts p k

module _ {t : Tables} (sound : IsSound t) (forward : Bool) (p k mark : ℕ) (kind : Kind) (at : IsEntry t p k mark kind) (none : List ℕ)
    (no_step : HasNoneMeant forward t none) (few : AreFew forward none) (long : length none ≡ 9) (i : ℕ) (p_is : i + 1 ≡ p) (nine : i < 9) where
  cases : (q : ℕ) → ((q ≡ p) × (cut_of (set none i k) q ≡ k)) ⊎ (cut_of (set none i k) q ≡ cut_of none q)
  cases q = ⊎_elim (λ h. inl (omega arith, h.1)) (λ same. inr same) (set_cases none i k q (omega arith))

  itself_set : cut_of (set none i k) p ≡ k
  itself_set = let e : p ≡ suc i = omega arith in rw e (cut_set none i k (omega arith))

  pub cutting_begins : IsCutting forward t p k mark kind none (set none i k)
  cutting_begins =
      record {
        sound = λ q l b other at_l meant.
            elim (cases q) [
              | inl h ↦ rw h.0 (own_led sound forward p k l mark b kind other at (rw h.0 at at_l) (rw h.1 at meant))
              | inr same ↦ absurd (no_step q l b other at_l (rw same at meant))
            ];
        closed = λ q l meant a other at_l. absurd (no_step q l a other at_l meant);
        wider = λ q l meant.
            elim (cases q) [
              | inl h ↦ rw h.1 (onward_past forward (cut_of none q) k l (λ on. no_step p k mark kind at (rw (← h.0) on)) meant)
              | inr same ↦ rw same meant
            ];
        looked_few = few;
        few = λ q. elim (cases q) [ inl h ↦ rw h.1 (few_of forward k (number_few sound p k mark kind at)) | inr same ↦ rw same (few q) ];
        long = long;
        rooted = rw itself_set (onward_refl forward k);
      }

module _ {t : Tables} {forward : Bool} {p k mark : ℕ} {kind : Kind} {looked cuts : List ℕ} (was : IsCutting forward t p k mark kind looked cuts) where
  -- one step more is looked at
  module _ {i l : ℕ} (open_one : IsOpenAt cuts looked i) (l_is : l ≡ cond forward (slice_index looked i - 1) (slice_index looked i + 1)) where
    within : i < length looked
    within = let long = was.long in omega (arith, open_one.0)

    here : cut_of looked (i + 1) ≡ slice_index looked i
    here = let e : i + 1 ≡ suc i = omega arith in rw e (cut_at looked i)

    pub next : IsNextTo forward (cut_of cuts (i + 1)) (slice_index looked i) l
    next =
        next_to forward (cut_of cuts (i + 1)) (slice_index looked i) l l_is (was.wider (i + 1) (slice_index looked i) (rw here (onward_refl forward _)))
        (λ e. open_one.1 (e ∙ sym here)) (was.few (i + 1)) (rw here at (was.looked_few (i + 1)))

    pub less_to_look : room forward (set looked i l) < room forward looked
    less_to_look = sum_falls (λ n. cond forward n (65536 - n)) looked i l within next.fewer

    further : (q m : ℕ) → IsMeant forward (set looked i l) q m → IsMeant forward looked q m ⊎ ((q ≡ i + 1) × (m ≡ l))
    further q m h1 = grind (arith, common_steps, gets, set_cases, within)

    pub goes_on : {new : List ℕ} → StaysSoundCut forward t cuts new → IsLookedAt forward t (i + 1) l new → IsWider forward cuts new
        → AreFew forward new → IsCutting forward t p k mark kind (set looked i l) new
    goes_on stays looked_at wider few =
        record {
          sound = stays (event.Step p k kind) mark was.sound;
          closed = λ q m meant.
              elim (further q m meant) [
                | inl old ↦ λ a other at r low j b some d. wider r j (was.closed q m old a other at r low j b some d)
                | inr now ↦ rw (now.0, now.1) looked_at
              ];
          wider = λ q m meant. wider q m (elim (further q m meant) [ inl old ↦ was.wider q m old | inr now ↦ rw (now.0, now.1) next.meant ]);
          looked_few = λ q. elim (set_cases looked i l q within) [ inl h ↦ rw h.1 next.few | inr same ↦ rw same (was.looked_few q) ];
          few = few;
          long = length-set looked i l ∙ was.long;
          rooted = wider p k was.rooted;
        }

  pub cutting_ends : ((q : ℕ) → cut_of looked q ≡ cut_of cuts q) → AreCuts forward t p k mark kind cuts
  cutting_ends same = record { sound = was.sound; closed = λ q l meant. was.closed q l (rw (same q) meant); rooted = was.rooted }

-- ---- what the numbers mean is the step with its consequences, and the losses of what these sent

module _ {t : Tables} (sound : IsSound t) {p k mark : ℕ} {kind : Kind} {cuts : List ℕ} (are : AreCuts true t p k mark kind cuts) where
  abbrev one : Event
  one = event.Step p k kind

  -- what is cut off is reached
  cut_reached : (b : ℕ) (it : Event) → Stands t b it → IsCut t cuts it → IsReached t one mark b it
  cut_reached b (event.Step q l kind) at cut = are.sound q l b kind at cut
  cut_reached b (event.Lost copy) at cut =
      let send = sound.sent_is copy.msg.s copy.msg.m cut.0 cut.1 in
      reached_on sound send.1 (are.sound copy.msg.s cut.0 send.0 (Send copy.msg.m) send.1 cut.2) (at_once sound (loss_dependent sound copy send.1 at))

  -- and what is reached is cut off
  next_cut : {a b : ℕ} (cause effect : Event) → IsDependent t cause a b effect → IsCut t cuts cause → IsCut t cuts effect
  next_cut {a} {b} (event.Step q l kind) (event.Step r j other) d cut =
      are.closed q l cut a kind d.cause r (process_within sound r j b other d.effect).1 j b other d
  next_cut {a} (event.Step q l kind) (event.Lost copy) d cut =
      let is = why sound d in (l, sound.is_sent copy.msg.s copy.msg.m l a (rw (is.0, is.1) at d.cause), rw is.0 at cut)
  next_cut (event.Lost copy) effect d cut = absurd (why sound d)

  abbrev IsCutAt : ℕ → Type 0
  IsCutAt j = (it : Event) → nth (history_in t) j ≡ Some it → IsCut t cuts it

  linked_cut : {i j : ℕ} → IsLink depends (history_in t) i j → IsCutAt i → IsCutAt j
  linked_cut {i} {j} link cut it there =
      next_cut link.cause it (dependent_of sound i j (mark_at sound i link.cause link.at_cause).1 (mark_at sound j it there).1 link)
      (cut link.cause link.at_cause)

  consequence_cut : {i j : ℕ} → IsConsequence depends (history_in t) i j → IsCutAt i → IsCutAt j
  consequence_cut (direct link) cut = linked_cut link cut
  consequence_cut (onward c link) cut = linked_cut link (consequence_cut c cut)

  pub exactly_cut : (at : ℕ) → IsPlace sound at mark one → (other : ℕ) (it : Event) → nth (history_in t) other ≡ Some it
      → (IsCut t cuts it) ↔ (IsRolledBack depends (history_in t) at other)
  exactly_cut at place other it there = let here = mark_at sound other it there in (
    (λ cut. (cut_reached here.0 it (stands_at sound other here.0 it here.1) cut).leads at other place here.1),
    (λ rolled. ⊎_elim (λ e. root it (rw e at there)) (λ c. consequence_cut c root it there) rolled),
  )
    where
      root : IsCutAt at
      root it there = rw (← same_at (history_in t) at one it (event_in sound at mark one place) there) are.rooted

-- ---- or its past, and that of a loss of what it sent

module _ {t : Tables} (sound : IsSound t) where
  pub same_message : {s m k l : ℕ} → IsMessage (sent_of t) s m k → IsMessage (sent_of t) s m l → k ≡ l
  same_message one other = grind (arith, common_steps, gets)

  module _ {p k a : ℕ} {kind : Kind} (at_k : IsEntry t p k a kind) {ends : List ℕ} (are : AreCuts false t p k a kind ends) where
    led_itself : (one : Event) (end : ℕ) → Stands t end one → IsOf t p k one → IsReached t (event.Step p k kind) a end one
    led_itself (event.Step q l other) end there of =
        rw of.0 (own_reached sound p k l a end kind other at_k (rw of.0 at there) (omega (arith, of.1)))
    led_itself (event.Lost copy) end there of =
        let send = sound.sent_is copy.msg.s copy.msg.m k (rw (← of.0) at of.1) in
        let same = same_entry t copy.msg.s k send.1 (rw (← of.0) at at_k) in
        subst (λ q. IsReached t (event.Step q k kind) a end (event.Lost copy)) of.0
        (rw (same.0, same.1) at (at_once sound (loss_dependent sound copy send.1 there)))

    module _ {one : Event} {end : ℕ} (at : ℕ) (place : IsPlace sound at end one) (of : IsOf t p k one) where
      abbrev IsWithin : Event → Type 0
      IsWithin it = IsUpTo ends (event_name one) it

      is_one : (b : ℕ) (copy : CopyName) → Stands t b (event.Lost copy) → IsWithin (event.Lost copy) → (end ≡ b) × (one ≡ event.Lost copy)
      is_one b copy there e = one_name sound end b one (event.Lost copy) (stands_at sound at end one place) there (sym e)

      -- what is up to the numbers has led to the event
      within_led : (b : ℕ) (it : Event) → Stands t b it → IsWithin it → IsReached t it b end one
      within_led b (event.Step q l other) there le =
          reached_on sound at_k (are.sound q l b other there le) (led_itself one end (stands_at sound at end one place) of)
      within_led b (event.Lost copy) there e = let same = is_one b copy there e in rw (← same.0, ← same.1) (itself sound end one)

      -- and what has led to it is up to them
      one_more : {b c : ℕ} (cause effect : Event) → IsDependent t cause b c effect → IsWithin effect → IsWithin cause
      one_more (event.Lost copy) effect d within = absurd (why sound d)
      one_more {b} {c} (event.Step q l some) (event.Step r j other) d within =
          are.closed r j within c other d.effect q (process_within sound q l b some d.cause).1 l b some d
      one_more {b} {c} (event.Step q l some) (event.Lost copy) d within =
          let sent = rw (is_one c copy d.effect within).1 at of in
          let is = why sound d in
          let l_is : l ≡ k = same_message (sound.is_sent q copy.msg.m l b (rw is.1 at d.cause)) (rw (is.0, sent.0) sent.1) in
          rw (is.0, sent.0, l_is) are.rooted

      abbrev IsWithinAt : ℕ → Type 0
      IsWithinAt i = (it : Event) → nth (history_in t) i ≡ Some it → IsWithin it

      root_within : (it : Event) → IsOf t p k it → IsUpTo ends (event_name it) it
      root_within (event.Step q l other) of = rw (of.0, of.1) are.rooted
      root_within (event.Lost copy) of = refl

      exactly_led : (other : ℕ) (it : Event) → nth (history_in t) other ≡ Some it
          → (IsUpTo ends (event_name one) it) ↔ (HasLedTo depends (history_in t) at other)
      exactly_led other it there = let here = mark_at sound other it there in (
        (λ within. led ((within_led here.0 it (stands_at sound other here.0 it here.1) within).leads other at here.1 place)),
        (λ led. by_causes depends (history_in t) at IsWithinAt root before other led it there),
      )
        where
          led : IsRolledBack depends (history_in t) other at → HasLedTo depends (history_in t) at other
          led (inl e) = inl (sym e)
          led (inr c) = inr ((turned_round depends (history_in t) other at).1 c)

          root : IsWithinAt at
          root it there = rw (← same_at (history_in t) at one it (event_in sound at end one place) there) (root_within one of)

          before : (i j : ℕ) → IsDirectCause depends (history_in t) i j → IsWithinAt j → IsWithinAt i
          before i j cause within it there =
              let link = cause.link in
              one_more it link.effect (dependent_of sound i j (mark_at sound i it there).1 (mark_at sound j link.effect link.at_effect).1 link)
              (within link.effect link.at_effect)

  -- by the name of the event
  pub past_of : {p k a : ℕ} {kind : Kind} → IsEntry t p k a kind → {ends : List ℕ} → AreCutsOf false t p k ends
      → (one : Event) (end : ℕ) → Stands t end one → IsOf t p k one → (at : ℕ) → IsNamedAt (history_in t) at (event_name one)
      → (other : ℕ) (it : Event) → nth (history_in t) other ≡ Some it
      → (IsUpTo ends (event_name one) it) ↔ (HasLedTo depends (history_in t) at other)
  past_of {a = a} {kind} at_k are one end stands of at h = exactly_led at_k (are a kind at_k) at (the_place sound end one stands at h) of
