-- What the tables say of an event is so in the history: the first that depends on it, and its direct causes.
use Rattle.std.proofs.lemmas.Option.{gets, same_Some, none-some}
use Rattle.std.proofs.lemmas.Grind.{common_steps}
use Rattle.std.proofs.lemmas.Bool.{cases_eq, cases_Bool, ne_eqb}
use Rattle.std.proofs.Common.{◌≡◌, ◌≢◌, ℕ, ◌+◌, ◌<◌, ◌≤◌, true, nat_le, leb-true, leb-false, true≢false, eq-eqb, List, Option, Some, None, ◌⊎◌, inl}
use Rattle.std.proofs.Common.{inr, ⊎_elim, refl, sym, ap, ◌∙◌, arith, false, ◌↔◌, [], ◌∷◌, ◌++◌, length}
use Rattle.std.specs.Option.{option_map}
use Rattle.cdb_base.specs.Event.{event_name, is_step_of}
use Rattle.cdb_base.specs.Positions.{nth}
use Rattle.cdb_base.specs.declared.event.Event.{Event}
use Rattle.cdb_base.specs.declared.event.Event.TheVariants as event
use Rattle.cdb_base.specs.declared.event.Kind.{Kind}
use Rattle.cdb_base.specs.declared.event.Kind.TheVariants.{Send, Recv}
use Rattle.cdb_base.specs.declared.name.StepId.TheVariants as named
use Rattle.cdb_standing.specs.Accesses.{access_of, IsFirstBehindOrNone, IsLastBeforeOrNone, accessed, writes}
use Rattle.cdb_standing.specs.Dependents.{IsFoundOf, found, earlier_of, found_step, found_copy, found_access, IsFoundByCopy, IsFoundByList}
use Rattle.cdb_standing.specs.Dependents.{IsDependent, AreConflicts, process_of, Needs, IsLeast, IsFound, IsFoundUpTo, IsFoundFirst, IsFirstName}
use Rattle.cdb_standing.specs.Dependents.{IsMail, AreInConflict}
use Rattle.cdb_standing.specs.InOrder.{Has}
use Rattle.cdb_standing.specs.Tables.{steps_of, sent_of, row_of, copy_named, entry_of, IsEntry, IsCopy, IsSound, history_in}
use Rattle.cdb_standing.specs.declared.dependents.Found.{Found}
use Rattle.cdb_standing.specs.declared.tables.Access.{Access}
use Rattle.cdb_standing.specs.declared.tables.Copied.{Copied}
use Rattle.cdb_standing.specs.declared.tables.Copied.TheVariants.{Waits, Received, Lost}
use Rattle.cdb_standing.specs.declared.tables.Entry.{Entry}
use Rattle.cdb_standing.specs.declared.tables.Tables.{Tables}
use Rattle.cdb_standing.proofs.Rows.{nth_within, nth_some, same_copy, same_at}
use Rattle.cdb_standing.proofs.Links.{why, mark_le, number_below, own_dependent, receive_dependent, loss_dependent, conflict_dependent}
use Rattle.cdb_standing.proofs.Links.{process_to_nine, turned, same_entry, process_within, by_reason}
use Rattle.cdb_base.specs.declared.name.CopyName.{CopyName}
use Rattle.cdb_base.specs.declared.name.StepId.{StepId}
use Rattle.cdb_causal.specs.Names.{IsNamedAt, IsFirstDependentOrFree}
use Rattle.cdb_standing.proofs.Places.{the_place, step_of_name, loss_of_name, IsPlace, place_of, event_in, mark_at, link_of, dependent_of, not_before}
use Rattle.cdb_standing.proofs.Places.{named_place}
use Rattle.cdb_standing.specs.Causes.{sent_by, IsLastByList, IsCause, IsLastCauseOrNone, HasAccessBetween, HasConflictBetween, IsLastCause, IsBetween}
use Rattle.cdb_standing.specs.Causes.{HasNone, IsDirect, step_named, IsDirectOf, AreDirect}
use Rattle.cdb_standing.specs.declared.tables.Sent.{Sent}
use Rattle.std.proofs.lemmas.List.{length_push}
use Rattle.cdb_causal.specs.DirectCauses.{NamesDirectCause, AreDirectCauses}
use Rattle.cdb_causal.proofs.Lists.{push_cases, push_front, push_back}

-- ---- what is found of two

module _ (These Others : ℕ → Event → Type 0) where
  abbrev Either : ℕ → Event → Type 0
  Either mark it = These mark it ⊎ Others mark it

  first_of_both : (f : Found) → IsLeast These f → ((mark : ℕ) (it : Event) → Others mark it → f.mark ≤ mark) → IsLeast Either f
  first_of_both f first behind =
      record { event = first.event; is = inl first.is; named = first.named; least = λ mark it h. ⊎_elim (first.least mark it) (behind mark it) h }

  second_of_both : (f : Found) → IsLeast Others f → ((mark : ℕ) (it : Event) → These mark it → f.mark ≤ mark) → IsLeast Either f
  second_of_both f second behind =
      record { event = second.event; is = inr second.is; named = second.named; least = λ mark it h. ⊎_elim (behind mark it) (second.least mark it) h }

  of_both : (one other : Option Found) → IsFound These one → IsFound Others other → IsFound Either (earlier_of one other)
  of_both None None first second = λ mark it h. ⊎_elim (first mark it) (second mark it) h
  of_both None (Some b) first second = second_of_both b second (λ mark it q. absurd (first mark it q))
  of_both (Some a) None first second = first_of_both a first (λ mark it q. absurd (second mark it q))
  of_both (Some a) (Some b) first second =
      elim (cases_Bool (nat_le a.mark b.mark)) [
        | inl low ↦ (let le = leb-true a.mark b.mark low in
            rw low (first_of_both a first (λ mark it q. let m = second.least mark it q in omega arith)))
        | inr high ↦ (let less = leb-false a.mark b.mark high in
            rw high (second_of_both b second (λ mark it q. let m = first.least mark it q in omega arith)))
      ]

-- the same events, said otherwise
same_found : (These Those : ℕ → Event → Type 0) (it : Option Found) → ((mark : ℕ) (event : Event) → These mark event → Those mark event)
    → ((mark : ℕ) (event : Event) → Those mark event → These mark event) → IsFound These it → IsFound Those it
same_found These Those None there back none = λ mark event q. none mark event (back mark event q)
same_found These Those (Some f) there back is =
    record {
      event = is.event;
      is = there f.mark is.event is.is;
      named = is.named;
      least = λ mark event q. is.least mark event (back mark event q);
    }

module _ {t : Tables} (sound : IsSound t) where
  -- ---- the next step of the process

  module _ (p k mark : ℕ) (kind : Kind) (at : IsEntry t p k mark kind) where
    abbrev This : Event
    This = event.Step p k kind

    abbrev Own : ℕ → Event → Type 0
    Own b it = IsDependent t This mark b it × (is_step_of p it ≡ true)

    own_found : IsFound Own (found_step t p (k + 1))
    own_found = by (nth (row_of (steps_of t) p) (k + 1)) refl
      where
        behind : (b : ℕ) (it : Event) → Own b it → (l : ℕ) × (other : Kind) × IsEntry t p l b other × (k < l)
        behind b (event.Step q l other) h =
            let q_is : q ≡ p = grind (arith, common_steps) in
            let there = rw q_is at h.0.effect in (l, other, there, number_below sound p k l mark b kind other at there h.0.later)
        behind b (event.Lost copy) h = absurd (true≢false (sym h.1))

        by : (o : Option Entry) → nth (row_of (steps_of t) p) (k + 1) ≡ o
            → IsFound Own (option_map (λ (entry : Entry). found entry.mark (named.Step (record { p = p; k = k + 1 }))) o)
        by None none = λ b it h.
            let s = behind b it h in
            let within = nth_within (row_of (steps_of t) p) s.0 (entry_of b s.1) s.2 in
            let some = nth_some (row_of (steps_of t) p) (k + 1) (omega arith) (omega arith) in none-some some.0 (sym none ∙ some.1)
        by (Some entry) there =
            record {
              event = event.Step p (k + 1) entry.kind;
              is = (own_dependent sound p at there (omega arith), eq-eqb p p refl);
              named = refl;
              least = λ b it h. let s = behind b it h in mark_le sound p (k + 1) s.0 entry.mark b entry.kind s.1 there s.2 (omega arith);
            }

    -- ---- of one process after another

    pub one_process_more : (q : ℕ) (first other : Option Found) → IsFoundUpTo t This mark q first
        → IsFoundOf t This mark (q + 1) other → IsFoundUpTo t This mark (q + 1) (earlier_of first other)
    one_process_more q first other so_far of_next =
        same_found _ _ (earlier_of first other)
        (λ b it h. ⊎_elim (λ old. (old.0, (let le = old.1 in omega arith), old.2)) (λ new. (new.0, (let is = new.1 in omega arith), new.2)) h)
        (λ b it h. elim (cases_eq (process_of it) (q + 1)) [ inl e ↦ inr (h.0, e, h.2) | inr e ↦ inl (h.0, (let le = h.1 in omega arith), h.2) ])
        (of_both _ _ first other so_far of_next)

    pub all_found : (own others : Option Found) → own ≡ found_step t p (k + 1) → IsFoundUpTo t This mark 9 others
        → IsFoundFirst t This mark (earlier_of own others)
    all_found own others own_is by_others =
        same_found _ _ (earlier_of own others) (λ b it h. ⊎_elim (λ q. q.0) (λ q. q.0) h) split
        (of_both Own _ own others (rw own_is own_found) by_others)
      where
        split : (b : ℕ) (it : Event) → IsDependent t This mark b it
            → Own b it ⊎ (IsDependent t This mark b it × (process_of it ≤ 9) × Needs This it)
        split b (event.Step q l other) d =
            ⊎_elim (λ own. inl (d, eq-eqb q p (sym own))) (λ needs. inr (d, process_to_nine sound b (event.Step q l other) d.effect, needs)) (why sound d)
        split b (event.Lost copy) d = inr (d, process_to_nine sound b (event.Lost copy) d.effect, why sound d)

  -- ---- what became of a copy

  module _ (p k mark m q : ℕ) (at : IsEntry t p k mark (Send m)) where
    step_is : (l b : ℕ) (other : Kind) → IsEntry t q l b other → found_step t q l ≡ Some (found b (event_name (event.Step q l other)))
    step_is l b other there = ap (option_map (λ (entry : Entry). found entry.mark (named.Step (record { p = q; k = l })))) there

    its_copy : (b : ℕ) (it : Event) → IsDependent t (event.Step p k (Send m)) mark b it → process_of it ≡ q → Needs (event.Step p k (Send m)) it
        → (c : Copied) × IsCopy (sent_of t) p m q c × (found_copy t p m q c ≡ Some (found b (event_name it)))
    its_copy b it d is needs = grind (arith, common_steps, gets)

    pub copy_found : (o : Option Found) → IsFoundByCopy t p m q o → IsFoundOf t (event.Step p k (Send m)) mark q o
    copy_found None by = λ b it h. let c = its_copy b it h.0 h.1 h.2 in none-some _ (by.each c.0 c.1 ∙ c.2)
    copy_found (Some f) by = of_copy by.only.0 by.only.1 by.only.2
      where
        least : (b : ℕ) (it : Event) → IsDependent t (event.Step p k (Send m)) mark b it × (process_of it ≡ q) × Needs (event.Step p k (Send m)) it
            → f.mark ≤ b
        least b it h =
            let c = its_copy b it h.0 h.1 h.2 in
            let f_is = same_Some f (found b (event_name it)) (by.each c.0 c.1 ∙ c.2) in
            rw f_is (omega arith)

        of_copy : (c : Copied) → IsCopy (sent_of t) p m q c → found_copy t p m q c ≡ Some f
            → IsFoundOf t (event.Step p k (Send m)) mark q (Some f)
        of_copy Waits copy e = absurd (none-some f e)
        of_copy (Received l) copy e =
            let got = sound.received_is p m q l copy in
            let f_is = same_Some _ f (sym (step_is l got.0 (Recv p m) got.1) ∙ e) in
            record {
              event = event.Step q l (Recv p m);
              is = rw (← f_is) (receive_dependent sound p m at got.1, refl, inl (record { m = m; sends = refl; receives = refl }));
              named = rw (← f_is) refl;
              least = least;
            }
        of_copy (Lost b) copy e =
            let f_is = same_Some (found b (named.Lost (copy_named p m q))) f e in
            record {
              event = event.Lost (copy_named p m q);
              is = rw (← f_is) (loss_dependent sound (copy_named p m q) at copy, refl, (refl, refl));
              named = rw (← f_is) refl;
              least = least;
            }

  -- ---- the first on a list

  module _ (p k mark : ℕ) (kind : Kind) (at : IsEntry t p k mark kind) (no_send : (m : ℕ) → kind ≢ Send m) (q : ℕ) {accesses : List Access}
      (are : AreConflicts t q kind accesses) where
    its_access : (b : ℕ) (it : Event) → IsDependent t (event.Step p k kind) mark b it → process_of it ≡ q → Needs (event.Step p k kind) it
        → (l : ℕ) × Has accesses (access_of b l)
    its_access b (event.Step r l other) d r_is (inl mail) = absurd (no_send mail.m mail.sends)
    its_access b (event.Step r l other) d r_is (inr c) = (l, are.each l b other (rw r_is at d.effect) c)
    its_access b (event.Lost copy) d to_is is = absurd (no_send copy.msg.m is.1)

    pub list_found : (o : Option Found) → IsFoundByList accesses q mark o → IsFoundOf t (event.Step p k kind) mark q o
    list_found o by = rw by.2 (with_first by.0 by.1)
      where
        with_first : (first : Option Access) → IsFirstBehindOrNone accesses mark first
            → IsFoundOf t (event.Step p k kind) mark q (option_map (found_access q) first)
        with_first None none = λ b it h.
            let on = its_access b it h.0 h.1 h.2 in let low = none (access_of b on.0) on.1 in let later = h.0.later in omega arith
        with_first (Some a) is =
            let it = are.only a is.0 in
            record {
              event = event.Step q a.k it.0;
              is = (conflict_dependent sound at it.1 is.1 it.2, refl, inr it.2);
              named = refl;
              least = λ b other h. let on = its_access b other h.0 h.1 h.2 in is.2 (access_of b on.0) on.1 h.0.later;
            }

-- ---- in the history

module _ {t : Tables} (sound : IsSound t) where
  is_first : (one : Event) (mark at : ℕ) → IsPlace sound at mark one → (it : Option Found) → IsFoundFirst t one mark it
      → IsFirstDependentOrFree (history_in t) at (option_map (λ (f : Found). f.name) it)
  is_first one mark at place None none = λ j link.
      let there = mark_at sound j link.effect link.at_effect in none there.0 link.effect (dependent_of sound at j place there.1 link)
  is_first one mark at place (Some f) first =
      let there = place_of sound f.mark first.event first.is.effect in
      record {
        position = there.0;
        named = (first.event, event_in sound there.0 f.mark first.event there.1, first.named);
        link = link_of sound at there.0 place there.1 first.is;
        first = λ j link.
            let other = mark_at sound j link.effect link.at_effect in
            not_before sound there.0 j f.mark other.0 first.event link.effect there.1 other.1
            (first.least other.0 link.effect (dependent_of sound at j place other.1 link));
      }

  pub first_by_name : (p k : ℕ) (result : Option StepId)
      → ((mark : ℕ) (kind : Kind) → IsEntry t p k mark kind → IsFirstName t (event.Step p k kind) mark result)
      → (at : ℕ) → IsNamedAt (history_in t) at (named.Step (record { p = p; k = k })) → IsFirstDependentOrFree (history_in t) at result
  first_by_name p k result first at h =
      let entry = step_of_name sound p k at h in
      let one = event.Step p k entry.1 in
      let it = first entry.0 entry.1 entry.2 in
      rw it.2 (is_first one entry.0 at (the_place sound entry.0 one entry.2 at h) it.0 it.1)

  -- nothing depends on a loss
  pub first_of_loss : (copy : CopyName) (at : ℕ) → IsNamedAt (history_in t) at (named.Lost copy)
      → IsFirstDependentOrFree (history_in t) at None
  first_of_loss copy at h =
      let lost = loss_of_name sound copy at h in
      is_first (event.Lost copy) lost.0 at (the_place sound lost.0 (event.Lost copy) lost.1 at h) None (λ b it d. why sound d)

-- ---- the last step of a process on which an event depends

module _ {t : Tables} (sound : IsSound t) where
  -- ---- the send of a message

  module _ (effect : Event) (ahead s m q : ℕ)
      (only : (j b : ℕ) (other : Kind) → IsCause t effect ahead b (event.Step q j other) → (q ≡ s) × (other ≡ Send m))
      (is_cause : (l b : ℕ) → IsEntry t s l b (Send m) → IsCause t effect ahead b (event.Step s l (Send m))) where
    its_send : {j b : ℕ} {other : Kind} → IsCause t effect ahead b (event.Step q j other) → IsEntry t s j b (Send m)
    its_send {j} {b} {other} c = let o = only j b other c in rw (o.0, o.1) at c.cause

    pub sent_last : IsLastCauseOrNone t effect ahead q (sent_by t s m q)
    sent_last = elim (cases_eq s q) [
      | inl e ↦ rw (eq-eqb s q e) (of_message e (nth (row_of (sent_of t) s) m) refl)
      | inr apart ↦ rw (ne_eqb s q apart) (λ j b other c. apart (sym (only j b other c).0))
    ]
      where
        of_message : s ≡ q → (it : Option Sent) → nth (row_of (sent_of t) s) m ≡ it → IsLastCauseOrNone t effect ahead q (option_map (λ (x : Sent). x.k) it)
        of_message e None none = λ j b other c. let message = sound.is_sent s m j b (its_send c) in none-some message.it (sym none ∙ message.was_sent)
        of_message e (Some it) is =
            let here = sound.sent_is s m it.k (record { it = it; was_sent = is; by = refl }) in (
              here.0,
              Send m,
              record {
                is = rw (← e) (is_cause it.k here.0 here.1);
                last = λ j b other c.
                    let there = its_send c in
                    let message = sound.is_sent s m j b there in
                    let same = same_at (row_of (sent_of t) s) m it message.it is message.was_sent in
                    let k_is : it.k ≡ j = ap (λ (x : Sent). x.k) same ∙ message.by in
                    mark_le sound s j it.k b here.0 (Send m) (Send m) there here.1 (omega arith);
              },
            )

  -- ---- the step before, of the process itself

  pub own_last : (p k a : ℕ) (kind : Kind) → IsEntry t p k a kind → (l : ℕ) → l + 1 ≡ k → 1 ≤ l
      → IsLastCauseOrNone t (event.Step p k kind) a p (Some l)
  own_last p k a kind at l e some =
      let high = (nth_within (row_of (steps_of t) p) k (entry_of a kind) at).1 in
      let entry = nth_some (row_of (steps_of t) p) l some (omega arith) in (
        (entry.0).mark,
        (entry.0).kind,
        record {
          is = own_dependent sound p entry.1 at (omega arith);
          last = λ j b other c.
              let below = number_below sound p j k b a other kind c.cause at c.later in
              mark_le sound p j l b (entry.0).mark other (entry.0).kind c.cause entry.1 (omega arith);
        },
      )

  pub own_none : (p k a : ℕ) (kind : Kind) → IsEntry t p k a kind → k ≤ 1 → IsLastCauseOrNone t (event.Step p k kind) a p None
  own_none p k a kind at first j b other c =
      let below = number_below sound p j k b a other kind c.cause at c.later in
      let within = nth_within (row_of (steps_of t) p) j (entry_of b other) c.cause in omega arith

  -- ---- the last of the accesses that are in conflict

  module _ (p k a : ℕ) (kind : Kind) (at : IsEntry t p k a kind) (no_receive : (s m : ℕ) → kind ≢ Recv s m) (q : ℕ) (apart : p ≢ q)
      {accesses : List Access} (are : AreConflicts t q kind accesses) where
    its_conflict : (j b : ℕ) (other : Kind) → IsCause t (event.Step p k kind) a b (event.Step q j other) → Has accesses (access_of b j)
    its_conflict j b other c =
        let is = why sound c in let conflict = λ (d : AreInConflict other kind). are.each j b other c.cause (turned d) in
        grind (arith, common_steps)

    pub list_last : (found : Option ℕ) → IsLastByList accesses a found → IsLastCauseOrNone t (event.Step p k kind) a q found
    list_last found by = rw by.2 (of_access by.0 by.1)
      where
        of_access : (last : Option Access) → IsLastBeforeOrNone accesses a last
            → IsLastCauseOrNone t (event.Step p k kind) a q (option_map (λ (access : Access). access.k) last)
        of_access None none = λ j b other c. let late = none _ (its_conflict j b other c) in let before = c.later in omega arith
        of_access (Some access) is =
            let it = are.only access is.0 in (
              access.mark,
              it.0,
              record {
                is = conflict_dependent sound it.1 at is.1 (turned it.2);
                last = λ j b other c. is.2 _ (its_conflict j b other c) c.later;
              },
            )

  -- ---- of a receive, and of a loss

  pub receive_last : (p k a q : ℕ) → p ≢ q → (s m : ℕ) → IsEntry t p k a (Recv s m)
      → IsLastCauseOrNone t (event.Step p k (Recv s m)) a q (sent_by t s m q)
  receive_last p k a q apart s m at =
      sent_last (event.Step p k (Recv s m)) a s m q (λ j b other c. only other (why sound c)) (λ l b sends. receive_dependent sound s m sends at)
    where
      only : (other : Kind) → (q ≡ p) ⊎ (IsMail q other (Recv s m) ⊎ AreInConflict other (Recv s m)) → (q ≡ s) × (other ≡ Send m)
      only other is = grind (arith, common_steps, gets)

  pub loss_last : (copy : CopyName) {a : ℕ} (q : ℕ) → IsCopy (sent_of t) copy.msg.s copy.msg.m copy.to (Lost a)
      → IsLastCauseOrNone t (event.Lost copy) a q (sent_by t copy.msg.s copy.msg.m q)
  loss_last copy {a} q at =
      sent_last (event.Lost copy) a copy.msg.s copy.msg.m q (λ j b other c. why sound c) (λ l b sends. loss_dependent sound copy sends at)

-- ---- what lies between a step and that one: accesses of the register that both access

module _ {t : Tables} {cause kind : Kind} (same : accessed cause ≡ accessed kind) (behind p ahead s : ℕ) {accesses : List Access} where
  -- all that is in conflict with the earlier step, where the later one writes or is of the process
  pub with_cause : AreConflicts t s cause accesses → (s ≡ p) ⊎ (writes kind ≡ true)
      → HasAccessBetween accesses behind ahead ↔ HasConflictBetween t cause behind p kind ahead s
  with_cause are either = (
    λ h.
        let it = are.only h.0 h.1 in
        let too = λ (w : writes kind ≡ true). inr (record { n = it.2.n; one = it.2.two; two = sym same ∙ it.2.one; written = inr w }) in
        (h.0, it.0, it.1, h.2, h.3, it.2, ⊎_elim (λ e. inl e) too either),
    λ h. (h.0, are.each h.0.k h.0.mark h.1 h.2 h.5, h.3, h.4),
  )

  -- and else all that is in conflict with the later one, which reads
  pub with_step : AreConflicts t s kind accesses → s ≢ p → writes kind ≡ false
      → HasAccessBetween accesses behind ahead ↔ HasConflictBetween t cause behind p kind ahead s
  with_step are apart reads = (
    λ h.
        let it = are.only h.0 h.1 in
        let written = ⊎_elim (λ w. absurd (true≢false (sym w ∙ reads))) (λ w. inr w) it.2.written in
        (h.0, it.0, it.1, h.2, h.3, record { n = it.2.n; one = same ∙ it.2.one; two = it.2.two; written = written }, inr (turned it.2)),
    λ h. (h.0, are.each h.0.k h.0.mark h.1 h.2 (⊎_elim (λ e. absurd (apart e)) (λ c. turned c) h.6), h.3, h.4),
  )

module _ {t : Tables} (sound : IsSound t) where
  module _ {p k a : ℕ} {kind : Kind} (at : IsEntry t p k a kind) {q l c : ℕ}
      {cause : Kind} (is : IsLastCause t (event.Step p k kind) a q l c cause) where
    abbrev pub IsBetweenHere : ℕ → Event → Type 0
    IsBetweenHere = IsBetween t (event.Step q l cause) c (event.Step p k kind) a

    -- it is in conflict with the first, and with the second or of its process, and these access one register
    abbrev LiesBetween : ℕ → Kind → Type 0
    LiesBetween s other = (accessed cause ≡ accessed kind) × AreInConflict cause other × ((s ≡ p) ⊎ AreInConflict other kind)

    lies_between : (s j x : ℕ) (other : Kind) → IsBetweenHere x (event.Step s j other) → LiesBetween s other
    lies_between s j x other b = by (why sound b.of_cause) (why sound b.to_effect) (why sound is.is)
      where
        -- what lies between is of another process than the cause, which is the last of its own
        not_own : q ≡ s → ⊥
        not_own e = let past = is.last j x other (rw (← e) at b.to_effect) in let later = b.of_cause.later in omega arith

        -- the receive of what the cause sends is not another step of the receiver
        one_receive : (m : ℕ) → s ≡ p → other ≡ Recv q m → kind ≡ Recv q m → ⊥
        one_receive m e here there =
            let first = sound.is_received q m s j x (rw here at b.of_cause.effect) in
            let second = sound.is_received q m p k a (rw there at at) in
            let entry = b.of_cause.effect in
            let later = b.to_effect.later in
            grind (arith, common_steps, same_copy, same_entry t p k)

        by : (q ≡ s) ⊎ (IsMail q cause other ⊎ AreInConflict cause other) → (s ≡ p) ⊎ (IsMail s other kind ⊎ AreInConflict other kind)
            → (q ≡ p) ⊎ (IsMail q cause kind ⊎ AreInConflict cause kind) → LiesBetween s other
        by (inl e) second third = absurd (not_own e)
        by (inr (inr c)) (inl e) (inl f) = absurd (not_own (f ∙ sym e))
        by (inr (inl one)) second third = let no = one_receive one.m in absurd (grind (arith, common_steps, gets, not_own))
        by (inr (inr c)) (inl e) (inr (inl mail)) = absurd (none-some c.n (rw mail.sends at c.one))
        by (inr (inr c)) (inl e) (inr (inr d)) = (d.one ∙ sym d.two, c, inl e)
        by (inr (inr c)) (inr (inl mail)) third = absurd (none-some c.n (rw mail.sends at c.two))
        by (inr (inr c)) (inr (inr d)) third = (c.one ∙ sym c.two ∙ d.one ∙ sym d.two, c, inr d)

    pub lies_there : {s : ℕ} → HasConflictBetween t cause c p kind a s → (x : ℕ) × (it : Event) × IsBetweenHere x it
    lies_there {s} h = (
      h.0.mark,
      event.Step s h.0.k h.1,
      record {
        of_cause = conflict_dependent sound is.is.cause h.2 h.3 h.5;
        to_effect = by_reason sound (event.Step s h.0.k h.1) (event.Step p k kind) h.2 at h.4 (⊎_elim (λ e. inl e) (λ d. inr (inr d)) h.6);
      },
    )

    pub none_lies : (accessed cause ≡ accessed kind → (s : ℕ) → 1 ≤ s → s ≤ 9 → HasConflictBetween t cause c p kind a s → ⊥)
        → HasNone t (event.Step q l cause) c (event.Step p k kind) a
    none_lies none x (event.Lost copy) b = why sound b.to_effect
    none_lies none x (event.Step s j other) b =
        let within = process_within sound s j x other b.of_cause.effect in
        let lies = lies_between s j x other b in
        none lies.0 s within.0 within.1 (access_of x j, other, b.of_cause.effect, b.of_cause.later, b.to_effect.later, lies.1, lies.2)

-- ---- the direct causes, of one process after another, and in the history

module _ {t : Tables} (sound : IsSound t) {effect : Event} {ahead : ℕ} where
  -- ---- of one process

  pub at_entry : (q l : ℕ) (entry : Entry) → Some entry ≡ nth (row_of (steps_of t) q) l
      → (mark : ℕ) × (kind : Kind) × IsLastCause t effect ahead q l mark kind → IsLastCause t effect ahead q l entry.mark entry.kind
  at_entry q l entry here is = let same = same_entry t q l is.2.is.cause (sym here) in rw (← same.0, ← same.1) is.2

  -- only its last step on which the event depends can be a direct cause
  module _ {q l mark : ℕ} {kind : Kind} (is : IsLastCause t effect ahead q l mark kind) where
    direct_is : {j : ℕ} (d : IsDirect t effect ahead q j) → (d.mark ≡ mark) × (event.Step q j d.kind ≡ event.Step q l kind)
    direct_is {j} d =
        elim (cases_eq d.mark mark) [
          | inl e ↦ (e, sound.marked.single mark (event.Step q j d.kind) (event.Step q l kind) (rw e at d.is.cause) is.is.cause)
          | inr other ↦ absurd (let le = is.last j d.mark d.kind d.is in d.nothing_between mark (event.Step q l kind)
              (record {
                of_cause = by_reason sound (event.Step q j d.kind) (event.Step q l kind) d.is.cause is.is.cause (omega arith) (inl refl);
                to_effect = is.is;
              }))
        ]

    pub hidden : {x : ℕ} {it : Event} → IsBetween t (event.Step q l kind) mark effect ahead x it → IsDirectOf t effect ahead q None
    hidden {x} {it} b =
        record {
          only = λ name e. absurd (none-some name e);
          each = λ j d. let same = direct_is d in absurd (d.nothing_between x it (rw (same.0, same.1) b));
        }

    pub shown : HasNone t (event.Step q l kind) mark effect ahead → IsDirectOf t effect ahead q (Some (step_named q l))
    shown none =
        record {
          only = λ name e. (l, record { mark = mark; kind = kind; is = is.is; nothing_between = none }, sym (same_Some (step_named q l) name e));
          each = λ j d. let same = (direct_is d).1 in let j_is : j ≡ l = cc in ap (λ i. Some (step_named q i)) (sym j_is);
        }

  pub no_cause : (q : ℕ) → IsLastCauseOrNone t effect ahead q None → IsDirectOf t effect ahead q None
  no_cause q none = record { only = λ name e. absurd (none-some name e); each = λ j d. absurd (none j d.mark d.kind d.is) }

  -- ---- of one process after another

  module _ {top : ℕ} {names : List StepId} (are : AreDirect t effect ahead top names) where
    pub none_more : IsDirectOf t effect ahead (top + 1) None → AreDirect t effect ahead (top + 1) names
    none_more none =
        record {
          only = λ k name at. let o = are.only k name at in (o.0, o.1, (let le = o.2 in omega arith), o.3, o.4);
          each = λ q l le d.
              elim (cases_eq q (top + 1)) [
                | inl e ↦ absurd (none-some (step_named (top + 1) l) (none.each l (rw e at d)))
                | inr other ↦ are.each q l (omega arith) d
              ];
          in_order = are.in_order;
          few = omega arith;
        }

    pub one_more : (found : StepId) → IsDirectOf t effect ahead (top + 1) (Some found)
        → AreDirect t effect ahead (top + 1) (names ++ found ∷ [])
    one_more found is =
        record {
          only = λ k name at.
              ⊎_elim
              (λ q. let o = are.only k name q.0 in (o.0, o.1, (let le = o.2 in omega arith), o.3, o.4))
              (λ q. (top + 1, here.0, omega arith, here.1, sym q.0 ∙ here.2))
              (push_cases names found name k at);
          each = λ q l le d.
              elim (cases_eq q (top + 1)) [
                | inl e ↦ (length names, push_back names found ∙ is.each l (rw e at d) ∙ ap (λ r. Some (step_named r l)) (sym e))
                | inr other ↦ (let at = are.each q l (omega arith) d in (at.0, push_front names found (step_named q l) at.0 at.1))
              ];
          in_order = λ k l name other less at_k at_l.
              elim (push_cases names found name k at_k) [
                | inl r ↦ elim (push_cases names found other l at_l) [
                  | inl q ↦ are.in_order k l name other less r.0 q.0
                  | inr q ↦ (let o = are.only k name r.0 in rw (o.4, sym q.0, here.2) (omega arith))
                ]
                | inr r ↦ absurd (elim (push_cases names found other l at_l) [ inl q ↦ omega arith | inr q ↦ omega arith ])
              ];
          few = (omega (arith, length_push names found));
        }
      where
        here : (l : ℕ) × IsDirect t effect ahead (top + 1) l × (found ≡ step_named (top + 1) l)
        here = is.only found refl

  -- ---- in the history

  module _ (at : ℕ) (place : IsPlace sound at ahead effect) where
    -- a direct cause in the tables is one in the history
    up : {q l : ℕ} → IsDirect t effect ahead q l → NamesDirectCause (history_in t) at (step_named q l)
    up {q} {l} d =
        let one = event.Step q l d.kind in
        let here = place_of sound d.mark one d.is.cause in (
          here.0,
          record {
            link = link_of sound here.0 at here.1 place d.is;
            nothing_between = λ k from to.
                let there = mark_at sound k from.effect from.at_effect in
                d.nothing_between there.0 from.effect
                (record { of_cause = dependent_of sound here.0 k here.1 there.1 from; to_effect = dependent_of sound k at there.1 place to });
          },
          (one, event_in sound here.0 d.mark one here.1, refl),
        )

    -- and back
    down_to : (name : StepId) → NamesDirectCause (history_in t) at name → (q : ℕ) × (l : ℕ) × IsDirect t effect ahead q l × (name ≡ step_named q l)
    down_to name n = let there = named_place sound n.0 name n.2 in by there.0 there.1 there.2 there.4
      where
        by : (mark : ℕ) (it : Event) → IsPlace sound n.0 mark it → event_name it ≡ name
            → (q : ℕ) × (l : ℕ) × IsDirect t effect ahead q l × (name ≡ step_named q l)
        by mark (event.Lost copy) here e = absurd (why sound (dependent_of sound n.0 at here place n.1.link))
        by mark (event.Step q l kind) here e = (
          q,
          l,
          record {
            mark = mark;
            kind = kind;
            is = dependent_of sound n.0 at here place n.1.link;
            nothing_between = λ x it b.
                let between = place_of sound x it b.of_cause.effect in
                n.1.nothing_between between.0 (link_of sound n.0 between.0 here between.1 b.of_cause) (link_of sound between.0 at between.1 place b.to_effect);
          },
          sym e,
        )

    pub all_direct : {names : List StepId} → AreDirect t effect ahead 9 names → AreDirectCauses (history_in t) at names
    all_direct are =
        record {
          only = λ k name at_k. let o = are.only k name at_k in rw o.4 (up o.3);
          each = λ name n.
              let d = down_to name n in
              let found = are.each d.0 d.1 (process_within sound d.0 d.1 d.2.mark d.2.kind d.2.is.cause).1 d.2 in
              (found.0, found.1 ∙ ap Some (sym d.3));
          in_order = are.in_order;
        }
