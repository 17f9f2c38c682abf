-- The headline holds of every journal.
use Rattle.std.proofs.lemmas.Grind.{common_steps}
use Rattle.std.proofs.lemmas.Option.{gets}
use Rattle.std.proofs.Common.{◌≡◌, ◌⊎◌, ⊎_elim, ℕ, suc, ◌-◌, ◌<◌, ◌≤◌, List, [], ◌∷◌, ◌++◌, length}
use Rattle.std.proofs.Common.{reverse, get_or, Some, Result, Ok, Err, IsTrue}
use Rattle.std.proofs.Common.{refl, sym, ap, ◌∙◌, subst, arith, append-nil, append_assoc}
use Rattle.std.specs.List.{AllByRecursion}
use Rattle.std.proofs.lemmas.List.{get_or-set_same, length-replicate, length-reverse, reverse-append}
use Rattle.cdb_base.specs.Event.{event_name}
use Rattle.cdb_base.specs.Positions.{nth, without_last}
use Rattle.cdb_base.specs.declared.event.Event.{Event}
use Rattle.cdb_base.specs.declared.name.StepId.{StepId}
use Rattle.cdb_base.specs.declared.name.StepId.TheVariants as id
use Rattle.cdb_base.specs.declared.refusal.Refusal.{Refusal}
use Rattle.cdb_base.specs.declared.refusal.Refusal.TheVariants.{NeededBy}
use Rattle.cdb_causal.specs.Causality.{IsFree}
use Rattle.cdb_causal.specs.Dependence.{depends}
use Rattle.cdb_causal.specs.Exchange.{IsExchanged}
use Rattle.cdb_causal.specs.Names.{IsFirstDependent}
use Rattle.cdb_causal.specs.Rollback.{IsParted, IsRolledBack, without, remaining, rolled_back}
use Rattle.cdb_causal.proofs.Chains.{parted}
use Rattle.cdb_causal.proofs.Walks.{last_free, without_push_back}
use Rattle.cdb_causal.proofs.Exchanges.{free_to_end, rollback_to_end}
use Rattle.cdb_causal.proofs.Lists.{push_back}
use Rattle.cdb_commands.specs.ReplyView.{ReplyView}
use Rattle.cdb_commands.specs.ReplyView as reply
use Rattle.cdb_control.specs.Commands.{Outcome, granted}
use Rattle.cdb_control.specs.Commands.{undone_by, redone, outcome, reply_of, obey}
use Rattle.cdb_control.specs.Headline.{undoing, undo_reply, rolling_back, SaysTaken, SaysRedone, IsUndoneWhereFree, IsUndoneNext}
use Rattle.cdb_control.specs.Headline.{RedosLeadBack, IsRolledBackAndForth, HoldsAt, Headline}
use Rattle.cdb_control.specs.Journal.{replay_from, replay, AreOfSeats}
use Rattle.cdb_control.specs.Kept.{IsReplayed, IsKept, AreOfRun}
use Rattle.cdb_control.specs.Room.{StoredState}
use Rattle.cdb_control.specs.State.{State, first_control_state, redo_of, last_of}
use Rattle.cdb_commands.specs.declared.command.Command.{Command}
use Rattle.cdb_commands.specs.declared.command.Command.TheVariants.{Redo, Decisions}
use Rattle.cdb_control.specs.declared.control.Entry.{Entry}
use Rattle.cdb_rules.proofs.Alls.{all-replicate}
use Rattle.cdb_control.proofs.FirstDependent.{free_or_needed}
use Rattle.cdb_control.proofs.Along.{IsReplayed-first, IsReplayed-more, obeyed-keeps, undone_exchanged}
use Rattle.cdb_control.proofs.Outcomes.{undone_to, rolled_to}
use Rattle.cdb_control.proofs.Refused.{leaves}
use Rattle.cdb_control.proofs.Steps.{undone-is, rolled-is}
use Rattle.cdb_rules.specs.Agreement.{AllAgree, AreProposed}
use Rattle.cdb_rules.specs.Lawful.{AreLawful, KeepHistories}
use Rattle.cdb_rules.specs.Refusals.{IsOfRun}
use Rattle.cdb_rules.specs.Rules.{Rules}
use Rattle.cdb_rules.specs.Undo.{undo_of, rollback_of}
use Rattle.cdb_rules.proofs.Undo.{undone_free, rolled_back_where_ok, stands_from_one, free_undone, needed_refused, standing_rolled_back}
use Rattle.cdb_setup.specs.Parts.{Parts, IsWithin, AreInRange}

-- ---- the commands that undo, roll back and redo

redone-is : (rules : Rules) (t : State) (seat : ℕ) (event : Event) → last_of (redo_of t seat) ≡ Some event
    → rules.again t.history event ≡ Ok event → outcome rules t seat Redo ≡ redone rules t seat event
unfolding outcome
redone-is rules t seat event top done = grind (arith, common_steps, gets)

-- ---- an undo

module _ (rules : Rules) (SameState : List Event → List Event → Type 0) (t : State)
    (keeps : KeepHistories rules SameState t.setup) (valid : IsTrue (rules.valid t.history)) where
  module _ (seat i : ℕ) (event : Event) (at : nth t.history i ≡ Some event) where
    abbrev name : StepId
    name = event_name event

    replied_free : IsFree depends t.history i → outcome rules t seat (undoing name) ≡ undone_to t seat (event, without t.history i)
    replied_free free = undone-is rules t seat name (free_undone t.setup.processes t.history name i event (keeps.named t.history valid i event at) free)

    said_free : IsFree depends t.history i → undo_reply rules t seat event ≡ reply.Undone event
    said_free free = ap (λ (o : Outcome). o.reply) (replied_free free)

    said_needed : (later : StepId) → IsFirstDependent t.history i later → undo_reply rules t seat event ≡ reply.Refused (NeededBy later)
    said_needed later first =
        ap (λ (o : Outcome). o.reply)
        (undone-is rules t seat name (needed_refused t.setup.processes t.history name i event (keeps.named t.history valid i event at) later first))

    pub undone_where_free : IsUndoneWhereFree rules t seat i event
    undone_where_free =
        record {
          exactly = (
            λ said. ⊎_elim (λ free. free) (λ later. let is = sym (said_needed later.0 later.1) ∙ said in absurd (cc)) either,
            said_free,
          );
          needed = λ later. (
            λ said. ⊎_elim
                (λ free. let is = sym said ∙ said_free free in absurd (cc))
                (λ first.
                let is = sym (said_needed first.0 first.1) ∙ said in
                let same : first.0 ≡ later = cc in
                subst (IsFirstDependent t.history i) same first.1)
                either,
            said_needed later,
          );
          either = either;
          loss = λ copy is. keeps.losses_free t.history valid i copy (at ∙ ap Some is);
          left = λ free. ap (λ (o : Outcome). o.after.history) (replied_free free);
        }
      where
        either : IsFree depends t.history i ⊎ ((later : StepId) × IsFirstDependent t.history i later)
        either = free_or_needed t.history i

-- what stands last is undone next
pub undone_last : (rules : Rules) (SameState : List Event → List Event → Type 0) (before after : State) (event : Event) (seat : ℕ)
    → KeepHistories rules SameState after.setup → IsTrue (rules.valid after.history)
    → after.history ≡ before.history ++ event ∷ [] → IsUndoneNext rules before after event seat
undone_last rules SameState before after event seat keeps valid is =
    let i = suc (length before.history) in
    let at = ap (λ (h : List Event). nth h i) is ∙ push_back before.history event in
    let free = subst (λ (h : List Event). IsFree depends h i) (sym is) (last_free depends before.history event) in
    let said = replied_free rules SameState after keeps valid seat i event at free in
    record {
      undone = ap (λ (o : Outcome). o.reply) said;
      left = ap (λ (o : Outcome). o.after.history) said ∙ ap (λ (h : List Event). without h i) is ∙ without_push_back before.history event;
    }

-- ---- redos

last_pushed : (xs : List Event) (x : Event) → last_of (xs ++ x ∷ []) ≡ Some x
last_pushed xs x = grind (arith, common_steps, gets)

front_pushed : (xs : List Event) (x : Event) → without_last (xs ++ x ∷ []) ≡ xs
front_pushed xs x = grind (arith, common_steps, gets)

-- a list that holds an event is one of the lists
within_lists : (lists : List (List Event)) (i : ℕ) (xs : List Event) (x : Event) → get_or lists i [] ≡ xs ++ x ∷ [] → i < length lists
within_lists lists i xs x found = grind (arith, common_steps, gets)

module _ (rules : Rules) (SameState : List Event → List Event → Type 0) (setup : Parts)
    (keeps : KeepHistories rules SameState setup) (before : State) (seat : ℕ) where
  pub lead_back : (events : List Event) (t : State) → IsTrue (rules.valid (t.history ++ events)) → redo_of t seat ≡ redo_of before seat ++ reverse events
      → SameState (t.history ++ events) before.history → RedosLeadBack rules SameState before seat t events
  lead_back [] t valid list same = (subst (λ (h : List Event). SameState h before.history) (append-nil t.history) same, list ∙ append-nil (redo_of before seat))
  lead_back (event ∷ events) t valid list same =
      λ between stays waits.
      let now = replay_from rules t between in
      let old = redo_of before seat ++ reverse events in
      let pushed : redo_of t seat ≡ old ++ event ∷ [] =
      list ∙ ap (λ l. redo_of before seat ++ l) (reverse-append (event ∷ []) events) ∙ sym (append_assoc (redo_of before seat) (reverse events) (event ∷ [])) in
      let list_now : redo_of now seat ≡ old ++ event ∷ [] = waits ∙ pushed in
      let joined : t.history ++ event ∷ events ≡ (t.history ++ event ∷ []) ++ events = sym (append_assoc t.history (event ∷ []) events) in
      let valid_joined = subst (λ (h : List Event). IsTrue (rules.valid h)) joined valid in
      let again =
      subst (λ (h : List Event). rules.again h event ≡ Ok event) (sym stays)
      (keeps.last_again t.history event (keeps.beginning (t.history ++ event ∷ []) events valid_joined)) in
      let is = redone-is rules now seat event (ap last_of list_now ∙ last_pushed old event) again in
      let history : (obey rules now seat Redo).history ≡ t.history ++ event ∷ [] =
      ap (λ (o : Outcome). o.after.history) is ∙ ap (λ (h : List Event). h ++ event ∷ []) stays in
      let low = within_lists now.redo (seat - 1) old event list_now in
      let list_after : redo_of (obey rules now seat Redo) seat ≡ old =
      ap (λ (o : Outcome). redo_of o.after seat) is
      ∙ get_or-set_same now.redo (seat - 1) (without_last (redo_of now seat)) [] low
      ∙ ap without_last list_now
      ∙ front_pushed old event in (
        subst (λ (r : ReplyView). SaysRedone r event) (sym (ap (λ (o : Outcome). o.reply) is)) refl,
        lead_back events (obey rules now seat Redo)
            (subst (λ (h : List Event). IsTrue (rules.valid (h ++ events))) (sym history) valid_joined)
            list_after
            (subst (λ (h : List Event). SameState (h ++ events) before.history) (sym history)
            (subst (λ (h : List Event). SameState h before.history) joined same)),
      )

-- ---- the headline of one state

module _ (rules : Rules) (SameState : List Event → List Event → Type 0) (t : State) (lawful : AreLawful rules t.setup)
    (keeps : KeepHistories rules SameState t.setup) (of_run : AreOfRun t) (valid : IsTrue (rules.valid t.history)) where
  then_undone : (seat other : ℕ) (command : Command) (event : Event) → SaysTaken (reply_of rules t seat command) event
      → IsUndoneNext rules t (obey rules t seat command) event other
  then_undone seat other command event says =
      let kept = obeyed-keeps rules SameState t lawful keeps of_run valid seat command in
      undone_last rules SameState t (obey rules t seat command) event other
      (subst (KeepHistories rules SameState) (sym (leaves rules t seat command).setup) keeps) kept.valid_after (kept.taken event says)

  module _ (seat : ℕ) (low : seat - 1 < length t.redo) where
    redone_after : (events left : List Event) (after : State) → IsExchanged depends t.history (left ++ events)
        → after ≡ undone_by t seat (reverse events) left → RedosLeadBack rules SameState t seat after events
    redone_after events left after exchanged is =
        lead_back rules SameState t.setup keeps t seat events after
        (subst (λ (s : State). IsTrue (rules.valid (s.history ++ events))) (sym is) (keeps.exchanged t.history (left ++ events) exchanged valid))
        (ap (λ (s : State). redo_of s seat) is ∙ get_or-set_same t.redo (seat - 1) (redo_of t seat ++ reverse events) [] low)
        (subst (λ (s : State). SameState (s.history ++ events) t.history) (sym is) (keeps.same_state t.history (left ++ events) exchanged))

    then_redone : (name : StepId) (event : Event) → reply_of rules t seat (undoing name) ≡ reply.Undone event
        → RedosLeadBack rules SameState t seat (obey rules t seat (undoing name)) (event ∷ [])
    then_redone name event said = go (undo_of t.setup.processes t.history name) refl
      where
        go : (r : Result (Event × List Event) Refusal) → undo_of t.setup.processes t.history name ≡ r
            → RedosLeadBack rules SameState t seat (obey rules t seat (undoing name)) (event ∷ [])
        go (Err refusal) is = let refused = sym (ap (λ (o : Outcome). o.reply) (undone-is rules t seat name is)) ∙ said in absurd (cc)
        go (Ok done) is =
            let out = undone-is rules t seat name is in
            let reply = sym (ap (λ (o : Outcome). o.reply) out) ∙ said in
            let same : done.0 ≡ event = cc in
            let exchanged = undone_exchanged t.setup.processes t.history name done is in
            redone_after (event ∷ []) done.1 (obey rules t seat (undoing name))
            (subst (λ (e : Event). IsExchanged depends t.history (done.1 ++ e ∷ [])) same exchanged)
            (ap (λ (o : Outcome). o.after) out ∙ ap (λ (e : Event). undone_by t seat (e ∷ []) done.1) same)

    back_and_forth : (i : ℕ) (event : Event) → nth t.history i ≡ Some event → IsRolledBackAndForth rules SameState t seat i event
    back_and_forth i event at =
        let gone = rolled_back depends t.history i in
        let left = remaining depends t.history i in
        let name = event_name event in
        let from_one = stands_from_one t.history i event at in
        let out =
        rolled-is rules t seat name
        (standing_rolled_back t.setup.processes t.history name i event (keeps.named t.history valid i event at)) in
        record {
          gone = gone;
          said = ap (λ (o : Outcome). o.reply) out ∙ ap (λ (n : ℕ). reply.RolledBack n) (length-reverse gone);
          exactly =
              subst (λ (o : Outcome). IsParted (IsRolledBack depends t.history i) 1 t.history o.after.history gone)
              (sym out) (parted depends t.history i from_one);
          back = redone_after gone left (obey rules t seat (rolling_back name)) (rollback_to_end depends t.history i) (ap (λ (o : Outcome). o.after) out);
        }

  -- what is told are the decisions that the history shows
  are_shown : (seat : ℕ) (pairs : List (ℕ × ℕ)) → reply_of rules t seat Decisions ≡ reply.Decisions pairs → rules.decisions t.history ≡ pairs
  unfolding outcome
  are_shown seat pairs said = cc

  pub holds_at : (seats : ℕ) → length t.redo ≡ seats → HoldsAt rules SameState t.setup seats t
  holds_at seats lists =
      record {
        reached = valid;
        shown = keeps.shown t.history;
        undone_where_free = undone_where_free rules SameState t keeps valid;
        step_then_undo = then_undone;
        undo_then_redo = λ seat event within said. then_redone seat (among seat within) (event_name event) event said;
        rolled_back = λ seat i event within at. back_and_forth seat (among seat within) i event at;
        agreement = λ seat pairs majority said. subst AllAgree (are_shown seat pairs said) (keeps.agreement majority t.history valid);
        validity = λ seat pairs said. subst (AreProposed t.setup) (are_shown seat pairs said) (keeps.validity t.history valid);
      }
    where
      among : (seat : ℕ) → IsWithin 1 seats seat → seat - 1 < length t.redo
      among seat within = let low = within.0 in let high = within.1 in omega (arith, low, high, lists)

-- ---- of journals, by the rules of a setup

module _ {rules : Parts → Rules} {same_state : Parts → List Event → List Event → Type 0}
    (lawful : (given : Parts) → AreInRange given → AreLawful (rules given) given)
    (keeps : (given : Parts) → AreInRange given → KeepHistories (rules given) (same_state given) given) where
  of_replayed : {setup : Parts} {seats : ℕ} {journal : List Entry} {t : State} → AreInRange setup
      → IsReplayed (rules setup) setup seats journal t → Headline rules same_state setup seats journal
  of_replayed {setup} {seats} {t = t} range is =
      rw is.replayed
      (subst (λ (s : Parts). HoldsAt (rules setup) (same_state setup) s seats t) is.setup_is
      (holds_at (rules setup) (same_state setup) t (rw is.setup_is (lawful setup range)) (rw is.setup_is (keeps setup range))
      is.of_run is.valid seats is.lists))

  pub headline_holds : (setup : Parts) → AreInRange setup → (seats : ℕ) (journal : List Entry) → AreOfSeats seats journal
      → Headline rules same_state setup seats journal
  headline_holds setup range seats journal all =
      let first = IsReplayed-first (lawful setup range) (keeps setup range) in
      of_replayed range (IsReplayed-more (lawful setup range) (keeps setup range) [] journal first all)

  -- and of what is kept of a control
  pub kept_headline : {seats space : ℕ} {journal : List Entry} {room_ends : List ℕ} {stored : StoredState}
      → IsKept rules seats journal space room_ends stored → Headline rules same_state stored.state.setup seats journal
  kept_headline kept = of_replayed kept.in_range kept.replayed
