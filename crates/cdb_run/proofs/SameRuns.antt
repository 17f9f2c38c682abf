-- Two runs are in the same state where their histories say the same of each process and of what is lost.
use Rattle.std.proofs.lemmas.Grind.{common_steps}
use Rattle.std.proofs.lemmas.Option.{gets}
use Rattle.std.proofs.Common.{◌≡◌, ℕ, zero, suc, ◌-◌, ◌<◌, ◌≤◌, ◌↔◌, Bool, true, List, [], length, Some, IsTrue}
use Rattle.std.proofs.Common.{slice_index_or, refl, sym, ap, ◌∙◌, subst, ◌⊎◌, ⊎_elim, arith}
use Rattle.std.proofs.lemmas.Option.{same_Some}
use Rattle.cdb_base.specs.Positions.{nth}
use Rattle.cdb_base.specs.Processes.{all_processes}
use Rattle.cdb_base.specs.declared.event.Event.{Event}
use Rattle.cdb_base.specs.declared.event.Event.TheVariants.{Lost}
use Rattle.cdb_base.specs.declared.name.CopyName.{CopyName}
use Rattle.cdb_causal.specs.Dependence.{depends}
use Rattle.cdb_causal.specs.Exchange.{IsExchanged}
use Rattle.cdb_message.specs.Mail.{is_lost}
use Rattle.cdb_rules.specs.Mail.{mail_of}
use Rattle.cdb_rules.specs.OwnSteps.{own_steps, own_of}
use Rattle.cdb_run.proofs.Causes.{all_nine, process_at}
use Rattle.cdb_run.proofs.Held.{reached_sound}
use Rattle.cdb_run.proofs.Told.{exactly, losses_brought}
use Rattle.cdb_run.specs.Alike.{AreAlike}
use Rattle.cdb_standing.specs.Moves.{StandsIn}
use Rattle.cdb_rules.specs.State.{Machine, RunState}
use Rattle.cdb_rules.specs.Step.{fold, IsValid}
use Rattle.cdb_rules.proofs.Histories.{fold_exchanged}
use Rattle.cdb_rules.proofs.Members.{own_at}
use Rattle.cdb_rules.proofs.ValidHistories.{own_of_history, ShowTheSame, shown_exchanged}
use Rattle.cdb_rules.proofs.Taken.{some_of}

same_bool : (a b : Bool) → (a ≡ true → b ≡ true) → (b ≡ true → a ≡ true) → a ≡ b
same_bool a b first second = grind (arith, common_steps, gets)

within_or_beyond : (p : ℕ) → (p ≤ 9) ⊎ (9 < p)
within_or_beyond p = grind arith

module _ {L : Type 0} (machine : Machine L) where
  own_at-own_of : (state : RunState L) (p k : ℕ) → own_at state p k ≡ nth (own_of state p) k
  own_at-own_of state p k = grind (arith, common_steps, gets)

  -- the mail has lost what was lost in the history
  lost_exactly : (history : List Event) (to : RunState L) → fold machine history ≡ Some to
      → (copy : CopyName) → (is_lost (mail_of to) copy ≡ true) ↔ StandsIn history (Lost copy)
  lost_exactly history to h copy =
      let exact = exactly machine (losses_brought machine copy) history to h in
      ((λ is. (exact.0 is).1), (λ stands. exact.1 (tt, stands)))

  module _ (few : length machine.firsts ≤ 9) (history others : List Event) (to other : RunState L)
      (h : fold machine history ≡ Some to) (g : fold machine others ≡ Some other) where
    -- beyond the processes nobody has own events
    none_beyond : (state : RunState L) → length state.processes ≤ 9 → (p : ℕ) → 9 < p → own_of state p ≡ []
    none_beyond state within p beyond = grind (arith, common_steps, gets)

    same_own : AreAlike history others → (p : ℕ) → own_of to p ≡ own_of other p
    same_own alike zero = refl
    same_own alike (suc i) =
        ⊎_elim
        (λ within.
        own_of_history machine history to h (suc i)
        ∙ subst (λ p. own_steps p history ≡ own_steps p others) (process_at (suc i) (omega arith) within)
        (alike.0 (suc i - 1) 0 (let nine = all_nine in omega (arith, within, nine)))
        ∙ sym (own_of_history machine others other g (suc i)))
        (λ beyond. none_beyond to (let count = (reached_sound machine history to h).count in omega (arith, count, few)) (suc i) beyond
        ∙ sym (none_beyond other (let count = (reached_sound machine others other g).count in omega (arith, count, few)) (suc i) beyond))
        (within_or_beyond (suc i))

    shown : AreAlike history others → ShowTheSame machine to other
    shown alike =
        record {
          own = λ p k. own_at-own_of to p k ∙ ap (λ l. nth l k) (same_own alike p) ∙ sym (own_at-own_of other p k);
          lost = λ copy.
              let one = lost_exactly history to h copy in
              let two = lost_exactly others other g copy in
              same_bool (is_lost (mail_of to) copy) (is_lost (mail_of other) copy)
              (λ is. two.1 ((alike.1 copy).0 (one.0 is))) (λ is. one.1 ((alike.1 copy).1 (two.0 is)));
        }

    pub alike_exchanged : AreAlike history others → IsExchanged depends history others
    alike_exchanged alike = shown_exchanged machine history others to other (shown alike) h g

    -- where the histories reach the same state, they tell the same
    runs_are_alike : to ≡ other → AreAlike history others
    runs_are_alike same = (
      λ k p within. let q = slice_index_or all_processes k p in
          sym (own_of_history machine history to h q) ∙ ap (λ state. own_of state q) same ∙ own_of_history machine others other g q,
      λ copy.
          let lost = ap (λ (state : RunState L). is_lost (mail_of state) copy) same in
          let one = lost_exactly history to h copy in
          let two = lost_exactly others other g copy in
          ((λ stands. two.0 (sym lost ∙ one.1 stands)), (λ stands. one.0 (lost ∙ two.1 stands))),
    )

  -- what a call says of two valid histories
  module _ (few : length machine.firsts ≤ 9) (history others : List Event) (valid : IsValid machine history)
      (other_valid : IsValid machine others) (returned : Bool) (said : IsTrue returned ↔ AreAlike history others) where
    pub answered : (IsTrue returned ↔ (fold machine history ≡ fold machine others)) × (IsTrue returned ↔ IsExchanged depends history others)
    answered =
        let to = some_of (fold machine history) valid in
        let other = some_of (fold machine others) other_valid in
        let exchanged = λ (yes : IsTrue returned). alike_exchanged few history others to.0 other.0 to.1 other.1 (said.0 yes) in
        let alike = λ (same : fold machine history ≡ fold machine others).
        said.1 (runs_are_alike few history others to.0 other.0 to.1 other.1 (same_Some to.0 other.0 (sym to.1 ∙ same ∙ other.1))) in (
          ((λ yes. fold_exchanged machine history others (exchanged yes)), alike),
          (exchanged, (λ moved. alike (fold_exchanged machine history others moved))),
        )
