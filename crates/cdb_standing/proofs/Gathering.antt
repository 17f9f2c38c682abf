-- What numbers cut off, as it is gathered, and in the order of its marks: the whole history, or a step with its consequences.
use Rattle.std.proofs.lemmas.Grind.{common_steps}
use Rattle.std.proofs.Common.{◌≡◌, ◌≢◌, ℕ, suc, ◌+◌, ◌<◌, ◌≤◌, ◌++◌, Bool, true, false, nat_eq, List, [], ◌∷◌, Some, inl, inr, ⊎_elim, refl, sym}
use Rattle.std.proofs.Common.{ap, ◌∙◌, arith, ◌-◌, Option, ◌⊎◌, length, set, length-set, None, ◌↔◌, zero, slice_get}
use Rattle.std.specs.Prelude.{IsPermutation, Result, Ok, Err, IfOk}
use Rattle.std.specs.List.Sorted.{IsNonDecreasingBy}
use Rattle.std.proofs.lemmas.Bool.{cases_lt, ne_eqb, eqb-false}
use Rattle.std.proofs.lemmas.Map.Keys.{IsDistinct-IsPermutation, IsDistinct-from_apart, apart_from_distinct}
use Rattle.std.specs.List.{IsDistinct}
use Rattle.std.proofs.lemmas.Bool.Decides.{nat_tests}
use Rattle.std.proofs.lemmas.List.Sorted.{Contains-permutation, IsPermutation-sym}
use Rattle.std.proofs.lemmas.Option.{slice_get_within, get_or_from_slice_get, slice_get-get_or, gets, none-some, same_Some}
use Rattle.cdb_standing.specs.InOrder.{Marked, Has, IsPairwise, IsRising, events_of}
use Rattle.cdb_standing.specs.declared.tables.Tables.{Tables}
use Rattle.cdb_standing.proofs.Ordered.{has_at, at_has, has_left, has_right, has_cases, pairwise_append, pairwise_at, pairwise_each, pairwise_map, same_list}
use Rattle.std.specs.Option.{option_map_or}
use Rattle.cdb_base.specs.Positions.{nth}
use Rattle.cdb_base.specs.declared.event.Event.{Event}
use Rattle.cdb_base.specs.declared.event.Kind.{Kind}
use Rattle.cdb_base.specs.declared.event.Kind.TheVariants.{Send}
use Rattle.cdb_base.specs.declared.name.CopyName.{CopyName}
use Rattle.cdb_standing.specs.Cuts.{cut_of, IsCut, AreCutsOf, room}
use Rattle.cdb_standing.specs.Gathered.{losses_of, of_step, IsOf, HasOtherEvent, AreGathered, AreInOrder, IsNext, NoneIsLeft, IsGathered}
use Rattle.cdb_standing.specs.Tables.{IsMessage, steps_of, sent_of, row_of, copy_named, loss_at, losses_to, entry_of, IsEntry, IsCopy, Stands, IsSound}
use Rattle.cdb_standing.specs.Tables.{history_in, standing}
use Rattle.cdb_standing.specs.declared.tables.Copied.{Copied}
use Rattle.cdb_standing.specs.declared.tables.Copied.TheVariants.{Lost}
use Rattle.cdb_standing.specs.declared.order.Next.{Next}
use Rattle.cdb_standing.specs.declared.tables.Sent.{Sent}
use Rattle.cdb_standing.proofs.CutsFound.{cut_at, cut_set, set_cases, sum_falls, same_message, exactly_cut}
use Rattle.cdb_standing.proofs.Listed.{marked, standing_rising, standing_only, standing_has}
use Rattle.cdb_standing.proofs.Links.{same_entry, process_within}
use Rattle.cdb_standing.proofs.Rows.{nth_within, each_one_only, each_one_has}
use Rattle.cdb_base.specs.Event.{event_name}
use Rattle.cdb_base.specs.declared.name.StepId.{StepId}
use Rattle.cdb_causal.specs.Causality.{IsFree, IsConsequence, direct, onward}
use Rattle.cdb_causal.specs.Dependence.{depends}
use Rattle.cdb_causal.specs.Names.{IsNamedAt}
use Rattle.cdb_causal.specs.Rollback.{IsParted, done, kept, gone, IsRolledBack, rolled_back}
use Rattle.cdb_causal.proofs.Chains.{parted, rolled_back_split, consequences_parted}
use Rattle.cdb_causal.proofs.Lists.{nth_map}
use Rattle.cdb_causal.proofs.Parted.{none_found}
use Rattle.cdb_standing.specs.Kept.{AreKept}
use Rattle.cdb_standing.proofs.Places.{the_place, step_of_name}
use Rattle.cdb_standing.proofs.LinksFound.{first_of_loss}
use Rattle.cdb_base.specs.declared.event.Event.TheVariants as event
use Rattle.cdb_base.specs.declared.name.StepId.TheVariants as named

-- ---- events with marks of their own, put in order

abbrev HasOtherMark : Marked → Marked → Type 0
HasOtherMark x y = x.mark ≢ y.mark

abbrev same_mark : Marked → Marked → Bool
same_mark x y = nat_eq x.mark y.mark

apart_distinct : (xs : List Marked) → IsPairwise HasOtherMark xs → IsDistinct same_mark xs
apart_distinct xs apart = IsDistinct-from_apart same_mark xs (λ i j d less within.
    ne_eqb _ _ (pairwise_at HasOtherMark xs i j _ _ apart (slice_get-get_or xs i d (omega arith)) (slice_get-get_or xs j d within) less))

-- sorted, they rise
sorted_rises : (xs : List Marked) → IsNonDecreasingBy (λ (x : Marked). x.mark) xs → IsDistinct same_mark xs → IsRising xs
unfolding IsDistinct
sorted_rises [] sorted apart = tt
sorted_rises (x ∷ xs) sorted apart =
    (after, sorted_rises xs (λ i j d le less. sorted (suc i) (suc j) d (omega arith) (omega arith)) apart.1)
  where
    after : (y : Marked) → Has xs y → x.mark < y.mark
    after y h =
        let found = has_at xs y h in
        let within = slice_get_within xs found.0 y found.1 in
        let up : x.mark ≤ y.mark = rw (get_or_from_slice_get xs found.0 y x found.1) at (sorted 0 (suc found.0) x (omega arith) (omega arith)) in
        let other : nat_eq x.mark y.mark ≡ false =
        rw (get_or_from_slice_get xs found.0 y x found.1) at (apart_from_distinct same_mark (x ∷ xs) 0 (suc found.0) x apart (omega arith) (omega arith)) in
        let ne = eqb-false x.mark y.mark other in omega arith

has_contains : (xs ys : List Marked) (x : Marked) → IsPermutation xs ys → Has xs x → Has ys x
has_contains xs ys x same h =
    let found = has_at xs x h in
    let there = Contains-permutation xs ys x same (found.0, slice_get_within xs found.0 x found.1, get_or_from_slice_get xs found.0 x x found.1) in
    at_has ys there.0 x (slice_get-get_or ys there.0 x there.1 ∙ ap Some there.2)

module _ (xs ys : List Marked) (same : IsPermutation xs ys) where
  pub moved_has : (x : Marked) → Has xs x → Has ys x
  moved_has x h = has_contains xs ys x same h

  pub moved_only : (x : Marked) → Has ys x → Has xs x
  moved_only x h = has_contains ys xs x (IsPermutation-sym xs ys same) h

  moved_distinct : IsDistinct same_mark xs → IsDistinct same_mark ys
  moved_distinct = IsDistinct-IsPermutation same_mark (λ x y. grind (arith, nat_tests)) xs ys same

-- ---- what is gathered

-- a copy that was lost gives its loss
is_loss : (s m to : ℕ) (copied : Copied) (x : Marked) → Has (loss_at s m to copied) x
    → (mark : ℕ) × (copied ≡ Lost mark) × (x ≡ marked mark (event.Lost (copy_named s m to)))
is_loss s m to copied x h = grind arith

module _ (t : Tables) (p : ℕ) where
  -- the loss of a copy of what a step of that kind sent
  record IsLossOf (kind : Kind) (x : Marked) : Type 0 where
    m : ℕ
    to : ℕ
    mark : ℕ
    sends : kind ≡ Send m
    copy : IsCopy (sent_of t) p m to (Lost mark)
    is : x ≡ marked mark (event.Lost (copy_named p m to))

  losses_only : (kind : Kind) (x : Marked) → Has (losses_of t p kind) x → IsLossOf kind x
  losses_only (Send m) x h = by (nth (row_of (sent_of t) p) m) refl h
    where
      by : (o : Option Sent) → nth (row_of (sent_of t) p) m ≡ o → Has (option_map_or (losses_to p m) o []) x → IsLossOf (Send m) x
      by None e h = absurd h
      by (Some it) e h =
          let found = each_one_only (loss_at p m) it.copies x h in
          let lost = is_loss p m found.0 found.1 x found.3 in
          record {
            m = m;
            to = found.0;
            mark = lost.0;
            sends = refl;
            copy = record { it = it; was_sent = e; became = found.2 ∙ ap Some lost.1 };
            is = lost.2;
          }
  losses_only _ x h = absurd h

  losses_apart : (kind : Kind) → IsPairwise HasOtherEvent (losses_of t p kind)
  losses_apart (Send m) = by (nth (row_of (sent_of t) p) m)
    where
      single : (to : ℕ) (copied : Copied) → IsPairwise HasOtherEvent (loss_at p m to copied)
      single to copied = grind arith

      by : (o : Option Sent) → IsPairwise HasOtherEvent (option_map_or (losses_to p m) o [])
      by None = tt
      by (Some it) =
          pairwise_each HasOtherEvent (loss_at p m) it.copies (λ i copied at. single (suc i) copied)
          (λ i j one other x y less at_i at_j h_x h_y same.
          let here = is_loss p m (suc i) one x h_x in
          let there = is_loss p m (suc j) other y h_y in
          let copies : copy_named p m (suc i) ≡ copy_named p m (suc j) = cc in
          let number : suc i ≡ suc j = ap (λ (c : CopyName). c.to) copies in absurd (omega arith))
  losses_apart _ = tt

-- what the first numbers cut off has been gathered, but for what the others still cut off
pub record IsGathering (t : Tables) (cuts from : List ℕ) (found : List Marked) : Type 0 where
  pub same : (x : Marked) → Has found x ↔ (Stands t x.mark x.event × IsCut t cuts x.event × (IsCut t from x.event → ⊥))
  pub apart : IsPairwise HasOtherEvent found
  pub higher : (p : ℕ) → cut_of cuts p ≤ cut_of from p
  pub long : length from ≡ 9

module _ {t : Tables} (sound : IsSound t) where
  -- ---- of what step an event is

  pub origin : (mark : ℕ) (it : Event) → Stands t mark it → (p : ℕ) × (k : ℕ) × (a : ℕ) × (kind : Kind) × IsEntry t p k a kind × IsOf t p k it
  origin mark (event.Step p k kind) at = (p, k, mark, kind, at, (refl, refl))
  origin mark (event.Lost copy) at =
      let message : IsMessage (sent_of t) (copy.msg).s (copy.msg).m (at.it).k = record { it = at.it; was_sent = at.was_sent; by = refl } in
      let send = sound.sent_is (copy.msg).s (copy.msg).m (at.it).k message in
      ((copy.msg).s, (at.it).k, send.0, Send (copy.msg).m, send.1, (refl, message))

  -- it is cut off where that step is
  pub of_cut : (cuts : List ℕ) (p k : ℕ) (it : Event) → IsOf t p k it → IsCut t cuts it ↔ (cut_of cuts p ≤ k)
  of_cut cuts p k it h1 = grind (arith, common_steps, gets, same_message)

  -- ---- what a step gives

  module _ (p k a : ℕ) (kind : Kind) (at : IsEntry t p k a kind) where
    abbrev given : List Marked
    given = of_step t p k (entry_of a kind)

    step_only : (x : Marked) → Has given x → Stands t x.mark x.event × IsOf t p k x.event
    step_only x (inl e) = rw (← e) (at, (refl, refl))
    step_only x (inr h) =
        let lost = losses_only t p kind x h in rw lost.is (lost.copy, (refl, sound.is_sent p lost.m k a (rw lost.sends at at)))

    step_has : (mark : ℕ) (it : Event) → Stands t mark it → IsOf t p k it → Has given (marked mark it)
    step_has mark (event.Step q l other) there of =
        let e = same_entry t p k (rw (of.0, of.1) at there) at in inl (rw (of.0, of.1, e.0, e.1) refl)
    step_has mark (event.Lost copy) there of =
        let send = sound.sent_is p (copy.msg).m k of.1 in
        let kind_is : Send (copy.msg).m ≡ kind = (same_entry t p k send.1 at).1 in
        let sent_there : nth (row_of (sent_of t) p) (copy.msg).m ≡ Some there.it = rw of.0 at there.was_sent in
        inr (rw (← kind_is, sent_there)
        (each_one_has (loss_at p (copy.msg).m) (there.it).copies (marked mark (event.Lost copy)) copy.to (Lost mark) there.became (inl (rw (← of.0) refl))))

    step_apart : IsPairwise HasOtherEvent given
    step_apart = (other, losses_apart t p kind)
      where
        other : (x : Marked) → Has (losses_of t p kind) x → HasOtherEvent (marked a (event.Step p k kind)) x
        other x h same = let lost = losses_only t p kind x h in let is = lost.is in absurd (cc)

  -- ---- the steps of all processes, one after another

  module _ {cuts from : List ℕ} {found new : List Marked} {next : Next}
      (was : IsGathering t cuts from found) (is : IsNext t from next) (it : IsGathered t next found new) where
    abbrev p : ℕ
    p = next.i + 1

    abbrev after : List ℕ
    after = set from next.i (next.k + 1)

    abbrev its : List Marked
    its = of_step t p next.k (entry_of next.mark it.kind)

    its_only : (x : Marked) → Has its x → Stands t x.mark x.event × IsOf t p next.k x.event
    its_only = step_only p next.k next.mark it.kind it.at

    within : next.i < length from
    within = let few = is.few in let long = was.long in omega arith

    moved : (q : ℕ) → ((q ≡ p) × (cut_of after q ≡ next.k + 1)) ⊎ (cut_of after q ≡ cut_of from q)
    moved q = ⊎_elim (λ here. inl (omega arith, here.1)) (λ same. inr same) (set_cases from next.i (next.k + 1) q within)

    further : (q : ℕ) → cut_of from q ≤ cut_of after q
    further q = grind (arith, common_steps, gets, moved)

    behind : cut_of after p ≡ next.k + 1
    behind = let e : p ≡ suc next.i = omega arith in rw e (cut_set from next.i (next.k + 1) within)

    pub gathering_goes_on : IsGathering t cuts after new
    gathering_goes_on = rw it.more (record {
      same = λ x. ((λ h. ⊎_elim (old x) (of_next x) (has_cases found its x h)), back x);
      apart = pairwise_append HasOtherEvent found its was.apart (step_apart p next.k next.mark it.kind it.at) across;
      higher = λ q. let more = further q in let low = was.higher q in omega arith;
      long = length-set from next.i (next.k + 1) ∙ was.long;
    })
      where
        old : (x : Marked) → Has found x → Stands t x.mark x.event × IsCut t cuts x.event × (IsCut t after x.event → ⊥)
        old x h =
            let s = (was.same x).0 h in
            let o = origin x.mark x.event s.0 in
            (s.0, s.1, λ cut. s.2 ((of_cut from _ _ x.event o.5).1 (let low = (of_cut after _ _ x.event o.5).0 cut in let more = further o.0 in omega arith)))

        of_next : (x : Marked) → Has its x → Stands t x.mark x.event × IsCut t cuts x.event × (IsCut t after x.event → ⊥)
        of_next x h =
            let o = its_only x h in (
              o.0,
              (of_cut cuts _ _ x.event o.1).1 (let low = was.higher p in let number = is.number in omega arith),
              λ cut. let low = (of_cut after _ _ x.event o.1).0 cut in let end = behind in absurd (omega arith),
            )

        back : (x : Marked) → Stands t x.mark x.event × IsCut t cuts x.event × (IsCut t after x.event → ⊥) → Has (found ++ its) x
        back x s =
            let o = origin x.mark x.event s.0 in
            let from_one = nth_within (row_of (steps_of t) o.0) o.1 (entry_of o.2 o.3) o.4 in
            elim (cases_lt o.1 (cut_of from o.0)) [
              | inl less ↦ has_left found its x ((was.same x).1
                  (s.0, s.1, λ cut. let low = (of_cut from _ _ x.event o.5).0 cut in absurd (omega arith)))
              | inr past ↦ has_right found its x (elim (moved o.0) [
                | inl here ↦ (elim (cases_lt o.1 (next.k + 1)) [
                  | inl low ↦ (let e : cut_of from o.0 ≡ cut_of from p = ap (cut_of from) here.0 in
                      let number = is.number in
                      let k_is : o.1 ≡ next.k = omega arith in
                      step_has p next.k next.mark it.kind it.at x.mark x.event s.0 (rw (here.0, k_is) at o.5))
                  | inr high ↦ absurd (s.2 ((of_cut after _ _ x.event o.5).1 (let end = here.1 in omega arith)))
                ])
                | inr same ↦ absurd (s.2 ((of_cut after _ _ x.event o.5).1 (omega arith)))
              ])
            ]

        across : (x y : Marked) → Has found x → Has its y → HasOtherEvent x y
        across x y h_x h_y same =
            let of = (its_only y h_y).1 in
            ((was.same x).0 h_x).2 (rw same ((of_cut from _ _ y.event of).1 (let number = is.number in omega arith)))

    pub less_room : room false after < room false from
    less_room = grind (arith, common_steps, gets, nth_within, within, cut_at, sum_falls)

  pub gathering_begins : {cuts : List ℕ} {found : List Marked} → length cuts ≡ 9 → found ≡ [] → IsGathering t cuts cuts found
  gathering_begins long none =
      rw none (record { same = λ x. ((λ h. absurd h), (λ s. absurd (s.2 s.1))); apart = tt; higher = λ p. omega arith; long = long })

  -- no step is left
  pub gathering_ends : {cuts from : List ℕ} {found : List Marked} → NoneIsLeft t from 0 9 → IsGathering t cuts from found
      → AreGathered cuts t found
  gathering_ends {cuts} {from} none was = record {
    same = λ x. ((λ h. let s = (was.same x).0 h in (s.0, s.1)), (λ s. (was.same x).1 (s.0, s.1, not_left x s.0)));
    apart = was.apart;
  }
    where
      not_left : (x : Marked) → Stands t x.mark x.event → IsCut t from x.event → ⊥
      not_left x at cut =
          let o = origin x.mark x.event at in
          let low = (of_cut from _ _ x.event o.5).0 cut in
          let process = process_within sound o.0 o.1 o.2 o.3 o.4 in
          let within = nth_within (row_of (steps_of t) o.0) o.1 (entry_of o.2 o.3) o.4 in
          let e : o.0 - 1 + 1 ≡ o.0 = omega arith in
          let done = rw e at (none (o.0 - 1) (omega arith) (omega arith)) in omega arith

  -- sorted, they are in order
  pub in_order_is : {cuts : List ℕ} {found : List Marked} (sorted : List Marked) → AreGathered cuts t found
      → IsPermutation found sorted → IsNonDecreasingBy (λ (x : Marked). x.mark) sorted
      → (events : List Event) → events ≡ events_of sorted → AreInOrder cuts t events
  in_order_is {found = found} sorted are moved rises events events_are =
      record {
        marked = sorted;
        rising =
            sorted_rises sorted rises
            (moved_distinct found sorted moved (apart_distinct found (pairwise_map HasOtherEvent HasOtherMark found other are.apart)));
        same = λ x. ((λ h. (are.same x).0 (moved_only found sorted moved x h)), (λ s. moved_has found sorted moved x ((are.same x).1 s)));
        are = events_are;
      }
    where
      other : (x y : Marked) → Has found x → Has found y → HasOtherEvent x y → HasOtherMark x y
      other x y h_x h_y apart same =
          apart (sound.marked.single y.mark x.event y.event (rw same at ((are.same x).0 h_x).0) ((are.same y).0 h_y).0)

pub if_ok_mapped : {A E : Type 0} {P Q : A → Type 0} → ((a : A) → P a → Q a) → (r : Result A E) → IfOk r P → IfOk r Q
if_ok_mapped more (Ok a) h = more a h
if_ok_mapped more (Err e) h = tt

-- ---- the whole history, and a step with its consequences, in order

-- ---- the marks of what is removed

-- those of the list whose positions, from the given one on, are removed
record IsPart (IsRemoved : ℕ → Type 0) (n : ℕ) (xs : List Marked) (removed : List Event) : Type 0 where
  part : List Marked
  rising : IsRising part
  are : events_of part ≡ removed
  only : (x : Marked) → Has part x → (at : ℕ) × (i : ℕ) × (at ≡ n + i) × (slice_get xs i ≡ Some x) × IsRemoved at
  all : (at i : ℕ) (x : Marked) → at ≡ n + i → slice_get xs i ≡ Some x → IsRemoved at → Has part x

module _ (IsRemoved : ℕ → Type 0) where
  part_of : (n : ℕ) (xs : List Marked) {left removed : List Event} → IsRising xs
      → IsParted IsRemoved n (events_of xs) left removed → IsPart IsRemoved n xs removed
  part_of n [] rising done = record { part = []; rising = tt; are = refl; only = λ x h. absurd h; all = λ at i x e there removed. absurd (none-some x there) }
  part_of n (y ∷ ys) rising (kept stays rest) =
      let more = part_of (suc n) ys rising.1 rest in
      record {
        part = more.part;
        rising = more.rising;
        are = more.are;
        only = λ x h. let found = more.only x h in (found.0, suc found.1, omega arith, found.3, found.4);
        all = all more;
      }
    where
      all : {removed : List Event} (more : IsPart IsRemoved (suc n) ys removed) (at i : ℕ) (x : Marked)
          → at ≡ n + i → slice_get (y ∷ ys) i ≡ Some x → IsRemoved at → Has more.part x
      all more at zero x e there here = let same : at ≡ n = omega arith in absurd (stays (rw same at here))
      all more at (suc i) x e there here = more.all at i x (omega arith) there here
  part_of n (y ∷ ys) rising (gone first rest) =
      let more = part_of (suc n) ys rising.1 rest in
      record {
        part = y ∷ more.part;
        rising = ((λ x h. let found = more.only x h in rising.0 x (at_has ys found.1 x found.3)), more.rising);
        are = ap (λ l. y.event ∷ l) more.are;
        only = only more;
        all = all more;
      }
    where
      only : {removed : List Event} (more : IsPart IsRemoved (suc n) ys removed) (x : Marked)
          → Has (y ∷ more.part) x → (at : ℕ) × (i : ℕ) × (at ≡ n + i) × (slice_get (y ∷ ys) i ≡ Some x) × IsRemoved at
      only more x (inl e) = (n, 0, omega arith, ap Some e, first)
      only more x (inr h) = let found = more.only x h in (found.0, suc found.1, omega arith, found.3, found.4)

      all : {removed : List Event} (more : IsPart IsRemoved (suc n) ys removed) (at i : ℕ) (x : Marked)
          → at ≡ n + i → slice_get (y ∷ ys) i ≡ Some x → IsRemoved at → Has (y ∷ more.part) x
      all more at zero x e there here = inl (same_Some y x there)
      all more at (suc i) x e there here = inr (more.all at i x (omega arith) there here)

-- a free event has no consequences
pub free_alone : (history : List Event) (at : ℕ) (it : Event) → 1 ≤ at → nth history at ≡ Some it
    → IsFree depends history at → rolled_back depends history at ≡ it ∷ []
free_alone history at it one there free =
    rolled_back_split depends history at it there
    ∙ ap (λ l. it ∷ l) (none_found (IsConsequence depends history at) none (consequences_parted depends history at one).1)
  where
    none : (i : ℕ) → IsConsequence depends history at i → ⊥
    none i (direct link) = free i link
    none i (onward first link) = none _ first

module _ {t : Tables} (sound : IsSound t)
    {cuts : List ℕ} {events : List Event} (ordered : AreInOrder cuts t events) where
  -- where nothing is below the numbers, that is the whole history
  pub all_in_order : ((q : ℕ) → cut_of cuts q ≡ 0) → events ≡ history_in t
  all_in_order none =
      ordered.are
      ∙ ap events_of
      (same_list ordered.marked (standing t) ordered.rising (standing_rising t)
      (λ x h. standing_has t sound.marked x.mark x.event ((ordered.same x).0 h).0)
      (λ x h.
      let there = standing_only t x h in
      let of = origin sound x.mark x.event there in
      (ordered.same x).1 (there, (of_cut sound cuts _ _ x.event of.5).1 (let zero_is = none of.0 in omega arith))))

  -- a step with its consequences
  pub cut_in_order : (at : ℕ) → ((other : ℕ) (it : Event) → nth (history_in t) other ≡ Some it
      → IsCut t cuts it ↔ IsRolledBack depends (history_in t) at other) → 1 ≤ at → events ≡ rolled_back depends (history_in t) at
  cut_in_order at are one =
      let part =
      part_of (IsRolledBack depends (history_in t) at) 1 (standing t)
      (standing_rising t) (parted depends (history_in t) at one) in
      ordered.are
      ∙ ap events_of
      (same_list ordered.marked part.part ordered.rising part.rising
      (λ x h.
      let cut = (ordered.same x).0 h in
      let found = has_at (standing t) x (standing_has t sound.marked x.mark x.event cut.0) in
      part.all (suc found.0) found.0 x (omega arith) found.1 ((are (suc found.0) x.event (event_there found.0 x found.1)).0 cut.1))
      (λ x h.
      let found = part.only x h in
      let number : found.0 ≡ suc found.1 = omega arith in
      let there = standing_only t x (at_has (standing t) found.1 x found.3) in
      (ordered.same x).1 (there, (are (suc found.1) x.event (event_there found.1 x found.3)).1 (rw number at found.4))))
      ∙ part.are
    where
      event_there : (i : ℕ) (x : Marked) → slice_get (standing t) i ≡ Some x → nth (history_in t) (suc i) ≡ Some x.event
      event_there i x there = nth_map (λ (m : Marked). m.event) (standing t) (suc i) x there

-- ---- by name

from_one : (history : List Event) (at : ℕ) (name : StepId) → IsNamedAt history at name → 1 ≤ at
from_one history at name h = grind (arith, common_steps, gets)

module _ {t : Tables} (kept : AreKept t) where
  abbrev IsRolledBackFrom : StepId → List Event → Type 0
  IsRolledBackFrom name events = (at : ℕ) → IsNamedAt (history_in t) at name → events ≡ rolled_back depends (history_in t) at

  pub step_rolled : (p k : ℕ) {cuts : List ℕ} {events : List Event} → AreCutsOf true t p k cuts → AreInOrder cuts t events
      → IsRolledBackFrom (named.Step (record { p = p; k = k })) events
  step_rolled p k are ordered at h =
      let at_k = step_of_name kept.sound p k at h in
      let place = the_place kept.sound at_k.0 (event.Step p k at_k.1) at_k.2 at h in
      cut_in_order kept.sound ordered at (exactly_cut kept.sound (are at_k.0 at_k.1 at_k.2) at place) (from_one (history_in t) at _ h)

  pub loss_rolled : (copy : CopyName) (events : List Event) → events ≡ event.Lost copy ∷ [] → IsRolledBackFrom (named.Lost copy) events
  loss_rolled copy events are at h =
      are ∙ sym (free_alone (history_in t) at (event.Lost copy) (from_one (history_in t) at (named.Lost copy) h)
      (by h.0 h.1 h.2) (first_of_loss kept.sound copy at h))
    where
      by : (it : Event) → nth (history_in t) at ≡ Some it → event_name it ≡ named.Lost copy → nth (history_in t) at ≡ Some (event.Lost copy)
      by (event.Step p k kind) there is = absurd (cc)
      by (event.Lost other) there is = let same : other ≡ copy = cc in there ∙ ap (λ c. Some (event.Lost c)) same
