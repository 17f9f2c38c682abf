-- What a step makes of the messages and their copies; a step, or the loss of a copy, is added, or taken out again.
use Rattle.std.proofs.lemmas.Option.{gets}
use Rattle.std.proofs.lemmas.Grind.{common_steps}
use Rattle.std.proofs.Common.{◌≡◌, ◌≢◌, ℕ, ◌+◌, arith, List, length, Some, ◌⊎◌, inl, inr, ⊎_elim, sym, ◌∙◌, ◌<◌, ◌≤◌, [], ◌∷◌, ◌++◌, ap, ap₂, refl}
use Rattle.std.proofs.Common.{length-append}
use Rattle.cdb_base.specs.Positions.{nth}
use Rattle.cdb_base.specs.declared.event.Kind.{Kind}
use Rattle.cdb_base.specs.declared.event.Kind.TheVariants.{Send, Recv}
use Rattle.cdb_standing.specs.Tables.{row_of, IsCopy, IsMessage, IsPutOn, IsCopySet, IsMailedBy, IsMailedBack, MayMail, AreNine, steps_of, sent_of, standing}
use Rattle.cdb_standing.specs.Tables.{history_in, entry_of, IsEntry, Stands, ComesFirst, AreMarked, IsSound, IsUnneeded}
use Rattle.cdb_standing.specs.declared.tables.Copied.{Copied}
use Rattle.cdb_standing.specs.declared.tables.Copied.TheVariants.{Waits, Received, Lost}
use Rattle.cdb_standing.specs.declared.tables.Sent.{Sent}
use Rattle.std.proofs.lemmas.Bool.{cases_eq}
use Rattle.cdb_standing.proofs.Rows.{same_copy, put_cases, put_keeps, put_joins, same_at, nth_within}
use Rattle.cdb_base.specs.declared.event.Event.{Event}
use Rattle.cdb_base.specs.declared.name.CopyName.{CopyName}
use Rattle.cdb_standing.specs.Kept.{IsStepAdded, IsStepTaken, IsLossSet}
use Rattle.cdb_standing.specs.declared.tables.Tables.{Tables}
use Rattle.cdb_standing.proofs.Links.{mark_le}
use Rattle.cdb_standing.proofs.Listed.{marked, IsOneMore, marked_more, history_more, marked_less, history_less}
use Rattle.cdb_causal.specs.Rollback.{without}
use Rattle.cdb_base.specs.declared.event.Event.TheVariants as event

-- ---- one copy set

module _ {old : List (List Sent)} {s m to : ℕ} {copied : Copied} {new : List (List Sent)} (put : IsCopySet old s m to copied new) where
  pub set_new : IsCopy new s m to copied
  set_new = record { it = put.it; was_sent = put.is_sent; became = put.set }

  pub set_cases : {r n q : ℕ} {c : Copied} → IsCopy new r n q c → IsCopy old r n q c ⊎ ((r ≡ s) × (n ≡ m) × (q ≡ to) × (c ≡ copied))
  set_cases is = grind (arith, common_steps, gets)

  pub set_keeps : {r n q : ℕ} {c : Copied} → IsCopy old r n q c → ((r ≡ s) × (n ≡ m) × (q ≡ to) → ⊥) → IsCopy new r n q c
  set_keeps copy other = grind (arith, common_steps, gets)

  pub set_message : {r n k : ℕ} → IsMessage old r n k → IsMessage new r n k
  set_message is = grind (arith, common_steps, gets)

  pub set_message_only : {r n k : ℕ} → IsMessage new r n k → IsMessage old r n k
  set_message_only is = grind (arith, common_steps, gets)

  pub set_nine : AreNine old → AreNine new
  set_nine nine r n it at =
      elim (cases_eq r s) [
        | inl e ↦ elim (cases_eq n m) [
          | inl f ↦ rw (same_at (row_of new s) m it put.it (rw (e, f) at at) put.is_sent) (put.same_length ∙ nine s m put.was put.was_sent)
          | inr apart ↦ nine s n it (rw (put.other_messages n apart) at (rw e at at))
        ]
        | inr apart ↦ nine r n it (rw (put.other_rows r apart) at at)
      ]

-- ---- one message more

module _ {p : ℕ} {low : List (List Sent)} {it : Sent} {high : List (List Sent)} (put : IsPutOn p low it high) where
  pub send_message : {s m k : ℕ} → IsMessage low s m k → IsMessage high s m k
  send_message message = grind (arith, put_keeps put)

  pub send_message_cases : {s m k : ℕ} → IsMessage high s m k → IsMessage low s m k ⊎ ((s ≡ p) × (m ≡ length (row_of low p) + 1) × (it.k ≡ k))
  send_message_cases is = grind (arith, put_cases put)

  pub send_copy : {s m to : ℕ} {c : Copied} → IsCopy low s m to c → IsCopy high s m to c
  send_copy copy = grind (arith, put_keeps put)

  pub send_copy_cases : {s m to : ℕ} {c : Copied} → IsCopy high s m to c
      → IsCopy low s m to c ⊎ ((s ≡ p) × (m ≡ length (row_of low p) + 1) × (nth it.copies to ≡ Some c))
  send_copy_cases is = grind (arith, put_cases put)

-- ---- what any step makes of them

pub record IsMailGrown (p k : ℕ) (kind : Kind) (old new : List (List Sent)) : Type 0 where
  pub copies : (s m to : ℕ) (c : Copied) → IsCopy new s m to c → c ≢ Waits → IsCopy old s m to c ⊎ ((kind ≡ Recv s m) × (to ≡ p) × (c ≡ Received k))
  pub keeps : (s m to : ℕ) (c : Copied) → IsCopy old s m to c → c ≢ Waits → IsCopy new s m to c
  pub received : (s m : ℕ) → kind ≡ Recv s m → IsCopy new s m p (Received k)
  pub messages : (s m l : ℕ) → IsMessage new s m l → IsMessage old s m l ⊎ ((s ≡ p) × (m ≡ length (row_of old p) + 1) × (l ≡ k) × (kind ≡ Send m))
  pub keeps_messages : (s m l : ℕ) → IsMessage old s m l → IsMessage new s m l
  pub sent : (m : ℕ) → kind ≡ Send m → IsMessage new p m k

pub grown : (p k : ℕ) (kind : Kind) (old new : List (List Sent)) → MayMail p kind old → IsMailedBy p k kind old new → IsMailGrown p k kind old new
grown p k (Send m) old new may mailed =
    record {
      copies = λ s n to c copy c_is. let is = send_copy_cases mailed.1 copy in grind arith;
      keeps = λ s n to c copy c_is. send_copy mailed.1 copy;
      received = λ s n e. absurd (cc);
      messages = λ s n l message. let is = send_message_cases mailed.1 message in grind arith;
      keeps_messages = λ s n l message. send_message mailed.1 message;
      sent = λ n e. let same : m ≡ n = cc in record { it = mailed.0; was_sent = put_joins mailed.1 n (sym same ∙ may); by = mailed.2 };
    }
grown p k (Recv s m) old new may put =
    record {
      copies = λ r n to c copy c_is. let is = set_cases put copy in grind arith;
      keeps = λ r n to c copy c_is. set_keeps put copy (λ e. c_is (same_copy copy may e));
      received = λ r n e. let a : s ≡ r = cc in let b : m ≡ n = cc in rw (← a, ← b) (set_new put);
      messages = λ r n l message. inl (set_message_only put message);
      keeps_messages = λ r n l message. set_message put message;
      sent = λ n e. absurd (cc);
    }
grown p k _ old new may same = grind arith

-- and there are still nine copies of each
pub nine_grown : (p k : ℕ) (kind : Kind) (old new : List (List Sent)) → IsMailedBy p k kind old new → AreNine old → AreNine new
nine_grown p k (Send m) old new mailed nine = λ s n it at. ⊎_elim (λ was. nine s n it was) (λ is. rw (← is.2) mailed.3) (put_cases mailed.1 s n it at)
nine_grown p k (Recv s m) old new put nine = set_nine put nine
nine_grown p k _ old new same nine = rw same nine

pub nine_left : (p : ℕ) (kind : Kind) (old new : List (List Sent)) → IsMailedBack p kind old new → AreNine old → AreNine new
nine_left p (Send m) old new mailed nine = λ s n it at. nine s n it (put_keeps mailed.1 s n it at)
nine_left p (Recv s m) old new put nine = set_nine put nine
nine_left p _ old new same nine = rw same nine

-- ---- where a step stands besides

record IsStepMore (mark p k : ℕ) (kind : Kind) (t t' : Tables) : Type 0 where
  number : k ≡ length (row_of (steps_of t) p) + 1
  put : IsPutOn p (steps_of t) (entry_of mark kind) (steps_of t')
  mail : IsMailGrown p k kind (sent_of t) (sent_of t')

module _ {mark p k : ℕ} {kind : Kind} {t t' : Tables} (new : IsStepMore mark p k kind t t') where
  entry_cases : (q l a : ℕ) (other : Kind) → IsEntry t' q l a other → IsEntry t q l a other ⊎ ((q ≡ p) × (l ≡ k) × (a ≡ mark) × (other ≡ kind))
  entry_cases q l a other at = grind (arith, put_cases new.put)

  entry_keeps : (q l a : ℕ) (other : Kind) → IsEntry t q l a other → IsEntry t' q l a other
  entry_keeps q l a other at = put_keeps new.put q l (entry_of a other) at

  entry_new : IsEntry t' p k mark kind
  entry_new = put_joins new.put k new.number

  own_last : (l a : ℕ) (other : Kind) → IsEntry t p l a other → l < k
  own_last l a other at = let within = nth_within (row_of (steps_of t) p) l (entry_of a other) at in let number = new.number in omega arith

  step_more : IsOneMore mark (event.Step p k kind) t t'
  step_more = record { keeps = keeps; joins = entry_new; only = only }
    where
      only : (a : ℕ) (it : Event) → Stands t' a it → Stands t a it ⊎ ((a ≡ mark) × (it ≡ event.Step p k kind))
      only a (event.Step q l other) at =
          ⊎_elim (λ old. inl old) (λ is. inr (is.2, ap (λ b. event.Step b l other) is.0 ∙ ap₂ (λ b c. event.Step p b c) is.1 is.3))
          (entry_cases q l a other at)
      only a (event.Lost copy) at =
          ⊎_elim (λ old. inl old) (λ is. let e = is.2 in absurd (cc)) (new.mail.copies (copy.msg).s (copy.msg).m copy.to (Lost a) at (λ e. absurd (cc)))

      keeps : (a : ℕ) (it : Event) → Stands t a it → Stands t' a it
      keeps a (event.Step q l other) at = entry_keeps q l a other at
      keeps a (event.Lost copy) at = new.mail.keeps (copy.msg).s (copy.msg).m copy.to (Lost a) at (λ e. absurd (cc))

module _ {p k : ℕ} {kind : Kind} {t t' : Tables} (sound : IsSound t) (number : k ≡ length (row_of (steps_of t) p) + 1) (small : k ≤ 65535)
    (may : MayMail p kind (sent_of t)) (added : IsStepAdded p k kind t t') where
  mail : IsMailGrown p k kind (sent_of t) (sent_of t')
  mail = grown p k kind (sent_of t) (sent_of t') may added.mailed

  step : IsStepMore t.next p k kind t t'
  step = record { number = number; put = added.put; mail = mail }

  -- what the step sends comes behind all that its process has sent, and no event that stands can only come after the step
  sent_behind : (m : ℕ) → kind ≡ Send m → (n : ℕ) (it : Sent) → nth (row_of (sent_of t) p) n ≡ Some it → n < m
  sent_behind m sends n it at =
      let last : MayMail p (Send m) (sent_of t) = rw sends at may in let within = nth_within (row_of (sent_of t) p) n it at in omega arith

  none_after : (b : ℕ) (it : Event) → Stands t b it → ComesFirst (event.Step p k kind) it → ⊥
  none_after b (event.Step q l other) at (inl own) = let less = own_last step l b other (rw (← own.0) at at) in let more = own.1 in absurd (omega arith)
  none_after b (event.Step q l other) at (inr (m, sends, inl got)) =
      let copy = sound.is_received p m q l b (rw got at at) in let less = sent_behind m sends m copy.it copy.was_sent in absurd (omega arith)
  none_after b (event.Step q l other) at (inr (m, sends, inr (own, n, also, later))) =
      let message = sound.is_sent p n l b (rw (← own, also) at at) in
      let less = sent_behind m sends n message.it message.was_sent in absurd (omega arith)
  none_after b (event.Lost copy) at (own, sends) =
      let less = sent_behind copy.msg.m sends copy.msg.m at.it (rw (← own) at at.was_sent) in absurd (omega arith)

  not_itself : ComesFirst (event.Step p k kind) (event.Step p k kind) → ⊥
  not_itself comes = grind arith

  received_is : (s m to l : ℕ) → IsCopy (sent_of t') s m to (Received l) → (mark : ℕ) × IsEntry t' to l mark (Recv s m)
  received_is s m to l copy =
      ⊎_elim
      (λ old. let found = sound.received_is s m to l old in (found.0, entry_keeps step to l found.0 (Recv s m) found.1))
      (λ new. let l_is : l ≡ k = (let e = new.2 in cc) in (t.next, rw (new.1, l_is, ← new.0) (entry_new step)))
      (mail.copies s m to (Received l) copy (λ e. absurd (cc)))

  is_received : (s m to l mark : ℕ) → IsEntry t' to l mark (Recv s m) → IsCopy (sent_of t') s m to (Received l)
  is_received s m to l mark at =
      ⊎_elim
      (λ old. mail.keeps s m to (Received l) (sound.is_received s m to l mark old) (λ e. absurd (cc)))
      (λ new. rw (new.0, new.1) (mail.received s m (sym new.3)))
      (entry_cases step to l mark (Recv s m) at)

  sent_is : (s m l : ℕ) → IsMessage (sent_of t') s m l → (mark : ℕ) × IsEntry t' s l mark (Send m)
  sent_is s m l message =
      ⊎_elim
      (λ old. let found = sound.sent_is s m l old in (found.0, entry_keeps step s l found.0 (Send m) found.1))
      (λ new. (t.next, rw (new.0, new.2, ← new.3) (entry_new step)))
      (mail.messages s m l message)

  is_sent : (s m l mark : ℕ) → IsEntry t' s l mark (Send m) → IsMessage (sent_of t') s m l
  is_sent s m l mark at =
      ⊎_elim
      (λ old. mail.keeps_messages s m l (sound.is_sent s m l mark old))
      (λ new. rw (new.0, new.1) (mail.sent m (sym new.3)))
      (entry_cases step s l mark (Send m) at)

  pub step_sound : IsSound t'
  step_sound =
      record {
        processes = (added.put).as_many ∙ sound.processes;
        senders = let many : length (sent_of t') ≡ length (sent_of t) = grind (arith, common_steps, gets) in many ∙ sound.senders;
        few = λ q. grind (arith, common_steps, gets);
        marked = marked_more sound.marked (step_more step) added.next none_after not_itself;
        received_is = received_is;
        is_received = is_received;
        sent_is = sent_is;
        is_sent = is_sent;
        nine = nine_grown p k kind (sent_of t) (sent_of t') added.mailed sound.nine;
      }

  pub step_added : history_in t' ≡ history_in t ++ event.Step p k kind ∷ []
  step_added = history_more sound.marked (step_more step) step_sound.marked

-- ---- where the loss of a copy does

copy_keeps : {old new : List (List Sent)} {s m to mark : ℕ} → IsCopy old s m to Waits → IsCopySet old s m to (Lost mark) new
    → (r n q : ℕ) (c : Copied) → IsCopy old r n q c → c ≢ Waits → IsCopy new r n q c
copy_keeps waits put r n q c there other = set_keeps put there (λ e. other (same_copy there waits e))

module _ {t t' : Tables} (copy : CopyName) where
  module _ {mark : ℕ} (same : steps_of t' ≡ steps_of t) (waits : IsCopy (sent_of t) (copy.msg).s (copy.msg).m copy.to Waits)
      (put : IsCopySet (sent_of t) (copy.msg).s (copy.msg).m copy.to (Lost mark) (sent_of t')) where
    loss_more : IsOneMore mark (event.Lost copy) t t'
    loss_more = record { keeps = keeps; joins = set_new put; only = only }
      where
        only : (a : ℕ) (it : Event) → Stands t' a it → Stands t a it ⊎ ((a ≡ mark) × (it ≡ event.Lost copy))
        only a (event.Step q l other) at = inl (rw same at at)
        only a (event.Lost other) at = let is = set_cases put at in grind arith

        keeps : (a : ℕ) (it : Event) → Stands t a it → Stands t' a it
        keeps a (event.Step q l other) at = rw same at
        keeps a (event.Lost other) at = copy_keeps waits put (other.msg).s (other.msg).m other.to (Lost a) at (λ e. absurd (cc))

  -- the steps are the same, and it was not received and is not
  set_sound : IsSound t → {was becomes : Copied} {mark : ℕ} → ((k : ℕ) → was ≢ Received k) → ((k : ℕ) → becomes ≢ Received k)
      → IsCopy (sent_of t) (copy.msg).s (copy.msg).m copy.to was → IsLossSet t copy becomes mark t' → AreMarked t' → IsSound t'
  set_sound sound not_received nor_later there lost marked =
      let same : steps_of t' ≡ steps_of t = lost.same.steps in
      record {
        processes = ap length same ∙ sound.processes;
        senders = lost.set.as_many ∙ sound.senders;
        few = rw same sound.few;
        marked = marked;
        received_is = λ r n q l copied.
            rw same (⊎_elim (λ old. sound.received_is r n q l old) (λ new. absurd (nor_later l (sym new.3))) (set_cases lost.set copied));
        is_received = λ r n q l a at.
            let copied = sound.is_received r n q l a (rw same at at) in set_keeps lost.set copied (λ e. not_received l (sym (same_copy copied there e)));
        sent_is = λ r n l message. rw same (sound.sent_is r n l (set_message_only lost.set message));
        is_sent = λ r n l a at. set_message lost.set (sound.is_sent r n l a (rw same at at));
        nine = set_nine lost.set sound.nine;
      }

  module _ (sound : IsSound t) (waits : IsCopy (sent_of t) (copy.msg).s (copy.msg).m copy.to Waits)
      (lost : IsLossSet t copy (Lost t.next) (t.next + 1) t') where
    pub loss_sound : IsSound t'
    loss_sound =
        set_sound sound (λ k e. absurd (cc)) (λ k e. absurd (cc)) waits lost
        (marked_more sound.marked (loss_more lost.same.steps waits lost.set) lost.next (λ b it at no. no) (λ no. no))

    pub loss_added : history_in t' ≡ history_in t ++ event.Lost copy ∷ []
    loss_added = history_more sound.marked (loss_more lost.same.steps waits lost.set) loss_sound.marked

-- ---- the last step of a process goes

-- a copy set back to what it was
set_back : {old new : List (List Sent)} {s m to : ℕ} {c d : Copied} → IsCopySet old s m to c new → IsCopy old s m to d → IsCopySet new s m to d old
set_back {old} {new} {s} {m} put copy =
    record {
      was = put.it;
      it = put.was;
      was_sent = put.is_sent;
      is_sent = put.was_sent;
      same_step = sym put.same_step;
      same_length = sym put.same_length;
      set = rw (same_at (row_of old s) m copy.it put.was copy.was_sent put.was_sent) at copy.became;
      other_copies = λ other apart. sym (put.other_copies other apart);
      other_messages = λ n apart. sym (put.other_messages n apart);
      other_rows = λ r apart. sym (put.other_rows r apart);
      as_many = sym put.as_many;
    }

module _ {mark p k : ℕ} {kind : Kind} {t t' : Tables} (sound : IsSound t) (unneeded : IsUnneeded p kind (sent_of t))
    (number : k ≡ length (row_of (steps_of t') p) + 1) (taken : IsStepTaken mark p kind t t') where
  pub entry_was : IsEntry t p k mark kind
  entry_was = put_joins taken.put k number

  top : (l b : ℕ) (other : Kind) → IsEntry t p l b other → l ≤ k
  top l b other at = grind (arith, common_steps, gets)

  -- ---- the step could be added again: what it did to the messages

  abbrev Again : Kind → Type 0
  Again some = MayMail p some (sent_of t') × IsMailedBy p k some (sent_of t') (sent_of t)

  abbrev n : ℕ
  n = length (row_of (sent_of t') p) + 1

  send_again : (m : ℕ) → IsEntry t p k mark (Send m) → IsUnneeded p (Send m) (sent_of t)
      → IsMailedBack p (Send m) (sent_of t) (sent_of t') → Again (Send m)
  send_again m at waits mailed = (
    last,
    (
      mailed.0,
      mailed.1,
      is_number,
      sound.nine p n mailed.0 end,
      λ to c copy. waits to c (record { it = mailed.0; was_sent = rw (← last) at end; became = copy }),
    ),
  )
    where
      end : nth (row_of (sent_of t) p) n ≡ Some mailed.0
      end = put_joins mailed.1 n refl

      message : IsMessage (sent_of t) p m k
      message = sound.is_sent p m k mark at

      -- a message behind it would be of a later step
      last : m ≡ n
      last =
          let found = sound.sent_is p n mailed.0.k (record { it = mailed.0; was_sent = end; by = refl }) in
          let high = mark_le sound p mailed.0.k k found.0 mark (Send n) (Send m) found.1 at (top mailed.0.k found.0 (Send n) found.1) in
          let within = nth_within (row_of (sent_of t) p) m message.it message.was_sent in
          let count : length (row_of (sent_of t) p) ≡ n = ap length mailed.1.more ∙ length-append (row_of (sent_of t') p) (mailed.0 ∷ []) in
          elim (cases_eq m n) [
            | inl is ↦ is
            | inr other ↦ (let rise = sound.marked.first mark found.0 (event.Step p k (Send m)) (event.Step p mailed.0.k (Send n)) at found.1
                (inr (m, refl, inr (refl, n, refl, omega arith))) in absurd (omega arith))
          ]

      is_number : mailed.0.k ≡ k
      is_number = ap (λ (x : Sent). x.k) (same_at (row_of (sent_of t) p) m mailed.0 message.it (rw (← last) at end) message.was_sent) ∙ message.by

  again : (some : Kind) → IsEntry t p k mark some → IsUnneeded p some (sent_of t) → IsMailedBack p some (sent_of t) (sent_of t') → Again some
  again (Send m) at waits mailed = send_again m at waits mailed
  again (Recv s m) at waits put = (set_new put, set_back put (sound.is_received s m p k mark at))
  again _ at waits same = (tt, sym same)

  may_again : MayMail p kind (sent_of t')
  may_again = (again kind entry_was unneeded taken.mailed).0

  mail_was : IsMailGrown p k kind (sent_of t') (sent_of t)
  mail_was = grown p k kind (sent_of t') (sent_of t) may_again (again kind entry_was unneeded taken.mailed).1

  step_was : IsStepMore mark p k kind t' t
  step_was = record { number = number; put = taken.put; mail = mail_was }

  -- ---- what is left

  old : (q l b : ℕ) (other : Kind) → IsEntry t' q l b other → IsEntry t q l b other
  old q l b other at = entry_keeps step_was q l b other at

  other_step : (q l b : ℕ) (other : Kind) → IsEntry t' q l b other → q ≡ p → l ≡ k → ⊥
  other_step q l b other at same_p same_k = let less = own_last step_was l b other (rw same_p at at) in omega arith

  received_is_left : (s m to l : ℕ) → IsCopy (sent_of t') s m to (Received l) → (b : ℕ) × IsEntry t' to l b (Recv s m)
  received_is_left s m to l copy =
      let found = sound.received_is s m to l (mail_was.keeps s m to (Received l) copy (λ e. absurd (cc))) in
      elim (entry_cases step_was to l found.0 (Recv s m) found.1) [
        | inl at ↦ (found.0, at)
        | inr new ↦ (let waits : MayMail p (Recv s m) (sent_of t') = rw (← new.3) at may_again in
            let no_way : Received l ≡ Waits = same_copy copy waits (refl, refl, new.0) in absurd (cc))
      ]

  is_received_left : (s m to l b : ℕ) → IsEntry t' to l b (Recv s m) → IsCopy (sent_of t') s m to (Received l)
  is_received_left s m to l b at =
      let was = sound.is_received s m to l b (old to l b (Recv s m) at) in
      ⊎_elim (λ copy. copy) (λ new. let e = new.2 in absurd (other_step to l b (Recv s m) at new.1 (cc)))
      (mail_was.copies s m to (Received l) was (λ e. absurd (cc)))

  sent_is_left : (s m l : ℕ) → IsMessage (sent_of t') s m l → (b : ℕ) × IsEntry t' s l b (Send m)
  sent_is_left s m l message =
      let found = sound.sent_is s m l (mail_was.keeps_messages s m l message) in
      elim (entry_cases step_was s l found.0 (Send m) found.1) [
        | inl at ↦ (found.0, at)
        | inr new ↦ (let last : MayMail p (Send m) (sent_of t') = rw (← new.3) at may_again in
            let within = nth_within (row_of (sent_of t') p) m message.it (rw new.0 at message.was_sent) in absurd (omega arith))
      ]

  is_sent_left : (s m l b : ℕ) → IsEntry t' s l b (Send m) → IsMessage (sent_of t') s m l
  is_sent_left s m l b at =
      ⊎_elim (λ message. message) (λ new. absurd (other_step s l b (Send m) at new.0 new.2))
      (mail_was.messages s m l (sound.is_sent s m l b (old s l b (Send m) at)))

  pub taken_sound : IsSound t'
  taken_sound =
      record {
        processes = sym (taken.put).as_many ∙ sound.processes;
        senders = let many : length (sent_of t') ≡ length (sent_of t) = grind (arith, common_steps, gets) in many ∙ sound.senders;
        few = λ q. grind (arith, common_steps, gets);
        marked = marked_less sound.marked (step_more step_was).keeps taken.next;
        received_is = received_is_left;
        is_received = is_received_left;
        sent_is = sent_is_left;
        is_sent = is_sent_left;
        nine = nine_left p kind (sent_of t) (sent_of t') taken.mailed sound.nine;
      }

  pub step_taken : (at : ℕ) → nth (standing t) at ≡ Some (marked mark (event.Step p k kind)) → history_in t' ≡ without (history_in t) at
  step_taken at there =
      history_less sound.marked (step_more step_was) taken_sound.marked (λ at. other_step p k mark kind at refl refl) at there

-- ---- the loss of a copy goes

module _ {mark : ℕ} {t t' : Tables} (sound : IsSound t) (copy : CopyName)
    (lost : IsCopy (sent_of t) (copy.msg).s (copy.msg).m copy.to (Lost mark)) (taken : IsLossSet t copy Waits t.next t') where
  -- it could be lost again
  waits_again : IsCopy (sent_of t') (copy.msg).s (copy.msg).m copy.to Waits
  waits_again = set_new taken.set

  back : IsCopySet (sent_of t') (copy.msg).s (copy.msg).m copy.to (Lost mark) (sent_of t)
  back = set_back taken.set lost

  abbrev same_steps : steps_of t ≡ steps_of t'
  same_steps = sym taken.same.steps

  was_lost : IsOneMore mark (event.Lost copy) t' t
  was_lost = loss_more copy same_steps waits_again back

  pub loss_taken_sound : IsSound t'
  loss_taken_sound = set_sound copy sound (λ k e. absurd (cc)) (λ k e. absurd (cc)) lost taken (marked_less sound.marked was_lost.keeps taken.next)

  pub loss_taken : (at : ℕ) → nth (standing t) at ≡ Some (marked mark (event.Lost copy)) → history_in t' ≡ without (history_in t) at
  loss_taken at there =
      history_less sound.marked was_lost loss_taken_sound.marked
      (λ still. let no : Lost mark ≡ Waits = same_copy still waits_again (refl, refl, refl) in absurd (cc)) at there
