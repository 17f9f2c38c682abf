-- The first breakpoint that a step fires is the least.
use Rattle.std.proofs.lemmas.Grind.{common_steps}
use Rattle.std.proofs.lemmas.Option.{gets}
use Rattle.std.proofs.Common.{◌≡◌, ◌⊎◌, ⊎_elim, inl, inr, ℕ, zero, suc, ◌≤◌, Bool, true, false, cond, List, []}
use Rattle.std.proofs.Common.{◌∷◌, Option, Some, None, Result, Ok, Err, find, option_map, refl, sym, ap, ◌∙◌, arith}
use Rattle.cdb_base.specs.declared.act.Act.{Act}
use Rattle.cdb_base.specs.declared.event.Event.{Event}
use Rattle.cdb_base.specs.declared.refusal.Refusal.{Refusal}
use Rattle.cdb_control.specs.Auto.{choice}
use Rattle.cdb_control.specs.Commands.{granted, unpaused, taken_step, newly_fired, step_done, step, IsPauseSet, HasPause, reply_of, obey}
use Rattle.cdb_control.specs.Commands.{outcome}
use Rattle.cdb_control.specs.Journal.{Journaled, extended, reply_in, control_state, replay_from, replay}
use Rattle.cdb_control.specs.Laws.{UsesNumbersOnce}
use Rattle.cdb_control.specs.State.{State, first_control_state}
use Rattle.cdb_control.specs.Stops.{Stops, fires, first_fired, IsFired, IsLeastFired}
use Rattle.cdb_commands.specs.ReplyView.{ReplyView}
use Rattle.cdb_commands.specs.declared.command.Command.{Command}
use Rattle.cdb_commands.specs.declared.command.Command.TheVariants.{Step, Auto}
use Rattle.cdb_commands.specs.declared.command.Stop.{Stop}
use Rattle.cdb_control.specs.declared.control.Entry.{Entry}
use Rattle.cdb_control.specs.declared.stops.TakenStep.{TakenStep}
use Rattle.cdb_control.proofs.Numbers.{AreNumbered, AreRising}
use Rattle.cdb_control.proofs.Refused.{leaves, next_number_used, state_extended}
use Rattle.cdb_rules.specs.Rules.{Rules}
use Rattle.cdb_setup.specs.Parts.{Parts}

-- ---- of a list whose numbers rise

module _ (taken : TakenStep) where
  -- what is fired of a list is its head, or of the rest
  head_or_rest : (b : ℕ × Stop) (more : Stops) (number : ℕ) → IsFired taken (b ∷ more) number
      → ((b.0 ≡ number) × (fires taken b.1 ≡ true)) ⊎ IsFired taken more number
  head_or_rest b more number (stop, (zero, within, at), fired) = inl (ap (λ (c : ℕ × Stop). c.0) at, cc)
  head_or_rest b more number (stop, (suc k, within, at), fired) = inr (stop, (k, omega (arith, within), at), fired)

  -- the rest's are fired of the whole
  of_rest : (b : ℕ × Stop) (more : Stops) (number : ℕ) → IsFired taken more number → IsFired taken (b ∷ more) number
  of_rest b more number (stop, (k, within, at), fired) = (stop, (suc k, omega (arith, within), at), fired)

  -- those of the rest have greater numbers
  above : (b : ℕ × Stop) (more : Stops) → AreRising (b ∷ more) → (number : ℕ) → IsFired taken more number → b.0 ≤ number
  above b more rising number fired = grind (arith, common_steps, gets)

  not_head : (b : ℕ × Stop) (more : Stops) → fires taken b.1 ≡ false → (number : ℕ) → IsFired taken (b ∷ more) number → IsFired taken more number
  not_head b more quiet number its = ⊎_elim (λ h. absurd (cc)) (λ rest. rest) (head_or_rest b more number its)

  -- where the head is not fired it is that of the rest
  behind : (b : ℕ × Stop) (more : Stops) (found : Option ℕ) → fires taken b.1 ≡ false → IsLeastFired taken more found → IsLeastFired taken (b ∷ more) found
  behind b more (Some number) quiet least = (of_rest b more number least.0, λ other its. least.1 other (not_head b more quiet other its))
  behind b more None quiet least = λ number its. least number (not_head b more quiet number its)

  first_if : (b : ℕ × Stop) (more : Stops) (fired : Bool) → fires taken b.1 ≡ fired → AreRising (b ∷ more) → IsLeastFired taken more (first_fired taken more)
      → IsLeastFired taken (b ∷ more) (option_map (λ (c : ℕ × Stop). c.0) (cond fired (Some b) (find (λ (c : ℕ × Stop). fires taken c.1) more)))
  first_if b more true is rising least =
      ((b.1, (zero, omega arith, refl), is), λ other its. ⊎_elim (λ h. omega (arith, h.0)) (above b more rising other) (head_or_rest b more other its))
  first_if b more false is rising least = behind b more (first_fired taken more) is least

  pub first_is_least : (stops : Stops) → AreRising stops → IsLeastFired taken stops (first_fired taken stops)
  first_is_least [] rising = λ number its. absurd (omega (arith, its.1.1))
  first_is_least (b ∷ more) rising = first_if b more (fires taken b.1) refl rising (first_is_least more rising.1)

  pause_set : (standing : Option ℕ) (stops : Stops) → AreRising stops → IsPauseSet standing taken stops (newly_fired standing taken stops)
  pause_set (Some b) stops rising = refl
  pause_set None stops rising = first_is_least stops rising

-- ---- of the states of journals

module _ (rules : Rules) where
  numbered_from : (journal : List Entry) (t : State) → AreNumbered t.next t.stops → let now = replay_from rules t journal in AreNumbered now.next now.stops
  numbered_from [] t all = all
  numbered_from (e ∷ es) t all = numbered_from es (obey rules t e.seat e.command) ((leaves rules t e.seat e.command).stops all)

  pub numbered : (setup : Parts) (seats : ℕ) (journal : List Entry) → let now = replay rules setup seats journal in AreNumbered now.next now.stops
  unfolding replay
  numbered setup seats journal = numbered_from journal (first_control_state setup seats) (tt, tt)

  -- ---- the replies to steps

  step_has_pause : (t : State) (p : ℕ) (act : Act) → AreRising t.stops → HasPause rules t p (step rules t p act).reply
  step_has_pause t p act rising = go (rules.step t.history p act)
    where
      go : (x : Result Event Refusal) → HasPause rules t p (granted x t (step_done rules t p)).reply
      go (Ok e) = pause_set (taken_step rules t.history p e) t.pause t.stops rising
      go (Err why) = tt

  auto_has_pause : (t : State) (p : ℕ) (chosen : Result Act Refusal) (standing : Option ℕ) → AreRising t.stops
      → HasPause rules t p (granted chosen t (λ act. unpaused standing t (step rules t p act))).reply
  auto_has_pause t p (Ok act) (Some b) rising = tt
  auto_has_pause t p (Ok act) None rising = step_has_pause t p act rising
  auto_has_pause t p (Err why) standing rising = tt

  pub least_by_step : (setup : Parts) (seats seat p : ℕ) (journal : List Entry) (act : Act) → let t = replay rules setup seats journal in
      HasPause rules t p (reply_of rules t seat (Step p act))
  unfolding outcome
  least_by_step setup seats seat p journal act = step_has_pause (replay rules setup seats journal) p act (numbered setup seats journal).1

  pub least_by_auto : (setup : Parts) (seats seat p : ℕ) (journal : List Entry) → let t = replay rules setup seats journal in
      HasPause rules t p (reply_of rules t seat (Auto p))
  unfolding outcome
  least_by_auto setup seats seat p journal =
      let t = replay rules setup seats journal in
      auto_has_pause t p (choice rules t.history p) t.pause (numbered setup seats journal).1

-- ---- one entry more

pub uses_numbers_once : (rules : Parts → Rules) (old : Journaled) (seat : ℕ) (command : Command) {new : Journaled} {said : ReplyView}
    → new ≡ extended rules old seat command → said ≡ reply_in rules old seat command → UsesNumbersOnce rules old new command said
uses_numbers_once rules old seat command is same =
    let by = rules old.setup in
    let before = control_state rules old in
    let after = ap (control_state rules) is ∙ state_extended rules old seat command in (
      (numbered by old.setup old.seats old.journal).0,
      rw after (leaves by before seat command).numbers,
      λ stop number gives set.
          let used = next_number_used by before seat stop number (ap (reply_of by before seat) (sym gives) ∙ sym same ∙ set) in
          (used.0, ap (λ (t : State). t.next) after ∙ ap (λ c. (obey by before seat c).next) gives ∙ used.1),
    )
