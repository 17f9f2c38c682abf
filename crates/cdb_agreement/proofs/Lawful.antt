-- The rules of every run are lawful, keep valid histories, the state that these reach, and agreement.
use Rattle.std.proofs.Common.{◌≡◌, ℕ, List, IfOk, Result, Some, IsTrue, refl, zero, suc, ◌≤◌, Bool, true, [], ◌∷◌, ◌++◌, length, Option, None, Ok}
use Rattle.std.proofs.Common.{IsSome, if◌then◌else◌, unwrap_or, sym, ap, ◌∙◌, subst, arith}
use Rattle.std.proofs.lemmas.Result.{IfOk-weaker}
use Rattle.cdb_alpha.specs.LocalState.{LocalState as AlphaState}
use Rattle.cdb_alpha.specs.Machine.{alpha_table}
use Rattle.cdb_alpha.specs.Values.{HoldsValue as AlphaHolds}
use Rattle.cdb_base.specs.declared.event.Event.{Event}
use Rattle.cdb_base.specs.declared.name.MsgName.{MsgName}
use Rattle.cdb_leader.specs.LocalState.{LocalState as LeaderState}
use Rattle.cdb_leader.specs.Machine.{leader_table}
use Rattle.cdb_leader.specs.Values.{HoldsValue as LeaderHolds}
use Rattle.cdb_setup.specs.Parts.{Parts, AreInRange}
use Rattle.cdb_setup.specs.declared.setup.Algorithm.{Algorithm}
use Rattle.cdb_setup.specs.declared.setup.Algorithm.TheVariants.{Leader, Alpha}
use Rattle.cdb_rules.specs.Agreement.{AllAgree, AreProposed, HasMajorityIfNeeded}
use Rattle.cdb_agreement.specs.Algorithms.{leader_machine, alpha_machine, rules, rules_by}
use Rattle.cdb_rules.specs.Decisions.{decisions_of}
use Rattle.cdb_rules.specs.Rules.{Rules, rules_of}
use Rattle.cdb_rules.specs.State.{RunState, Machine, ProcessState, start}
use Rattle.cdb_rules.specs.Step.{fold, is_among, state_of, IsEnabled, IsValid}
use Rattle.cdb_agreement.proofs.AlphaHistories.{alpha_agrees}
use Rattle.cdb_agreement.proofs.LeaderHistories.{leader_agrees}
use Rattle.cdb_agreement.proofs.Reached.{all_proposed, IsKept, reached, count_is, nth_among}
use Rattle.cdb_rules.proofs.Histories.{reached_state, fold_exchanged}
use Rattle.std.proofs.lemmas.Grind.{common_steps}
use Rattle.std.proofs.lemmas.Option.{gets}
use Rattle.std.proofs.lemmas.List.{length-map}
use Rattle.cdb_base.specs.Positions.{nth, update}
use Rattle.cdb_base.specs.declared.act.Act.{Act}
use Rattle.cdb_base.specs.declared.event.Kind.{Kind}
use Rattle.cdb_base.specs.declared.register.Cell.{Cell}
use Rattle.cdb_process.specs.Table.{Table}
use Rattle.cdb_register.specs.Registers.{RegisterStates, fresh_registers}
use Rattle.cdb_rules.specs.InputsTaken.{registers_after}
use Rattle.cdb_rules.specs.Lawful.{AreLawful, KeepHistories, taken_by}
use Rattle.cdb_rules.specs.Machines.{IsLawful, machine_of}
use Rattle.cdb_rules.specs.Refusals.{step_result, IsOfRun, again_result, loss_result}
use Rattle.cdb_rules.proofs.Granted.{of_some, step_enabled, again_same, lose_enabled, again_enabled, enabled_again, step_by_act}
use Rattle.cdb_rules.proofs.Undo.{among_is, valid_push, valid_named}
use Rattle.cdb_rules.proofs.OfRun.{firsts_are, next_of_run, last_enabled}
use Rattle.cdb_rules.proofs.Taken.{mapped, taken_from, some_of}
use Rattle.cdb_base.specs.Event.{event_name}
use Rattle.cdb_base.specs.declared.event.Event.TheVariants.{Step, Lost}
use Rattle.cdb_causal.proofs.Reaches.{reached_front_some}
use Rattle.cdb_agreement.specs.SameState.{ReachSameState, ReachSameStateBy}
use Rattle.cdb_rules.specs.Undo.{IsEventNamed}
use Rattle.cdb_rules.proofs.ValidHistories.{loss_free, valid_standing, same_state_exchanged}
use Rattle.cdb_alpha.proofs.Promised as alpha
use Rattle.cdb_leader.proofs.Promised as leader
use Rattle.cdb_alpha.specs.TableLaws as alpha_laws
use Rattle.cdb_leader.specs.TableLaws as leader_laws

-- ---- The decisions that a valid history shows agree, and were proposed, by the rules of its setup.

-- what holds of the rules of each table holds of the rules of every run
pub of_every : (Holds : Rules → Type 0) (setup : Parts) → Holds (rules_of leader_table setup) → Holds (rules_of alpha_table setup) → Holds (rules setup)
of_every Holds setup leader alpha = go setup.algorithm
  where
    go : (algorithm : Algorithm) → Holds (rules_by algorithm setup)
    go Leader = leader
    go Alpha = alpha

pub agreed : (setup : Parts) → AreInRange setup → HasMajorityIfNeeded setup → (history : List Event)
    → IsTrue ((rules setup).valid history) → AllAgree ((rules setup).decisions history)
agreed setup ranges majority history = by_algorithm setup.algorithm refl
  where
    by_algorithm : (algorithm : Algorithm) → setup.algorithm ≡ algorithm → IsTrue ((rules_by algorithm setup).valid history)
        → AllAgree ((rules_by algorithm setup).decisions history)
    by_algorithm Leader is valid = leader_agrees setup ranges (majority is) history _ (reached_state (leader_machine setup) history valid)
    by_algorithm Alpha is valid = alpha_agrees setup ranges history _ (reached_state (alpha_machine setup) history valid)

-- ---- what is decided was proposed

pub leader_proposes : (setup : Parts) → AreInRange setup → (history : List Event) (t : RunState LeaderState) → fold (leader_machine setup) history ≡ Some t
    → AreProposed setup (decisions_of (λ local. local.decision) t)
leader_proposes setup ranges = all_proposed leader_table LeaderHolds leader.no_value_is_made setup ranges.an_input_each

pub alpha_proposes : (setup : Parts) → AreInRange setup → (history : List Event) (t : RunState AlphaState) → fold (alpha_machine setup) history ≡ Some t
    → AreProposed setup (decisions_of (λ local. local.decision) t)
alpha_proposes setup ranges = all_proposed alpha_table AlphaHolds alpha.no_value_is_made setup ranges.an_input_each

pub proposed : (setup : Parts) → AreInRange setup → (history : List Event) → IsTrue ((rules setup).valid history)
    → AreProposed setup ((rules setup).decisions history)
proposed setup ranges history =
    of_every (λ rules. IsTrue (rules.valid history) → AreProposed setup (rules.decisions history)) setup
    (λ valid. leader_proposes setup ranges history _ (reached_state (leader_machine setup) history valid))
    (λ valid. alpha_proposes setup ranges history _ (reached_state (alpha_machine setup) history valid))

-- ---- what is answered, where it is the decisions that are shown

pub result_agrees : {V E : Type 0} (items : V → List (ℕ × ℕ)) (returned : Result V E) (setup : Parts) → AreInRange setup
    → (history : List Event) → IsTrue ((rules setup).valid history)
    → IfOk returned (λ found. items found ≡ (rules setup).decisions history) → IfOk returned (λ found. HasMajorityIfNeeded setup → AllAgree (items found))
result_agrees items returned setup ranges history valid =
    IfOk-weaker returned _ _ (λ found is majority. rw is (agreed setup ranges majority history valid))

pub result_proposed : {V E : Type 0} (items : V → List (ℕ × ℕ)) (returned : Result V E) (setup : Parts) → AreInRange setup
    → (history : List Event) → IsTrue ((rules setup).valid history)
    → IfOk returned (λ found. items found ≡ (rules setup).decisions history) → IfOk returned (λ found. AreProposed setup (items found))
result_proposed items returned setup ranges history valid = IfOk-weaker returned _ _ (λ found is. rw is (proposed setup ranges history valid))

-- ---- The rules of every run are lawful: what they take is enabled, and so an event of the run. They keep valid histories, the state that these reach,
-- and agreement.

-- the decisions that a valid history shows agree, and were proposed
abbrev HaveAgreement : Rules → Parts → Type 0
HaveAgreement rules setup =
    (HasMajorityIfNeeded setup → (history : List Event) → IsTrue (rules.valid history) → AllAgree (rules.decisions history))
    × ((history : List Event) → IsTrue (rules.valid history) → AreProposed setup (rules.decisions history))

-- ---- registers

length-update : {A : Type 0} (change : A → A) (xs : List A) (i : ℕ) → length (update change xs i) ≡ length xs
length-update change [] i = refl
length-update change (x ∷ xs) zero = refl
length-update change (x ∷ xs) (suc i) = ap suc (length-update change xs i)

registers_stay : (registers : RegisterStates) (kind : Kind) (cell : Option Cell)
    → length (registers_after registers kind cell).of_processes ≡ length registers.of_processes
registers_stay registers kind cell = grind (arith, common_steps, gets, length-update)

first_registers : (has : Bool) (n : ℕ) → length (fresh_registers (if has then n else 0)).of_processes ≤ n
first_registers has n = grind (arith, common_steps, gets)

-- no more processes have a register than there are
abbrev HasFewRegisters : {L : Type 0} → Machine L → RunState L → Type 0
HasFewRegisters machine t = length t.registers.of_processes ≤ length machine.firsts

few_stay : {L : Type 0} (machine : Machine L) → IsKept machine (HasFewRegisters machine)
few_stay {L} machine = record {
  lost = λ t lost it. it;
  stepped = λ t to p k kind taken it. subst (HasFewRegisters machine) taken.leads_to (rw (registers_stay t.registers kind _) it);
}

-- ---- the rules of a machine

module _ {L : Type 0} (table : Table L) (setup : Parts) (range : AreInRange setup) where
  abbrev machine : Machine L
  machine = machine_of table setup

  number : length machine.firsts ≡ setup.processes
  number = firsts_are table setup range

  -- the state of a history that is not valid is that of no event
  of_valid : (history : List Event) → (other : List Event) × IsValid machine other × (state_of machine other ≡ state_of machine history)
  of_valid history = go (fold machine history) refl
    where
      go : (o : Option (RunState L)) → fold machine history ≡ o
          → (other : List Event) × IsValid machine other × (state_of machine other ≡ unwrap_or o (start machine))
      go None is = ([], refl, refl)
      go (Some to) is = (history, subst IsSome (sym is) refl, ap (λ o. unwrap_or o (start machine)) is)

  processes_are : (history : List Event) → length (state_of machine history).processes ≡ setup.processes
  processes_are history =
      let valid = of_valid history in
      rw (← valid.2) (count_is machine valid.0 (state_of machine valid.0) (reached_state machine valid.0 valid.1) ∙ number)

  registers_are : (history : List Event) → length (state_of machine history).registers.of_processes ≤ setup.processes
  registers_are history =
      let valid = of_valid history in
      let few = reached machine (HasFewRegisters machine) (few_stay machine) (first_registers machine.has_registers (length machine.firsts)) in
      rw (← valid.2) (omega (arith, few valid.0 _ (reached_state machine valid.0 valid.1), number))

  among : (history : List Event) (p : ℕ) (process : ProcessState L) → nth (state_of machine history).processes p ≡ Some process
      → is_among setup.processes p ≡ true
  among history p process at =
      let within = nth_among _ p process at in among_is setup.processes p within.0 (rw (← processes_are history) within.1)

  pub pushed : (history : List Event) → IsValid machine history → (event : Event) → IsEnabled machine (state_of machine history) event
      → IsValid machine (history ++ event ∷ [])
  pushed history valid event enabled = valid_push machine setup.processes number history valid event enabled

  -- what is enabled is an event of the run
  pub enabled_of_run : (history : List Event) (event : Event) → IsEnabled machine (state_of machine history) event → IsOfRun setup event
  enabled_of_run history event enabled =
      let valid = of_valid history in
      next_of_run table setup range valid.0 event (pushed valid.0 valid.1 event (rw valid.2 enabled))

  module _ (lawful : IsLawful machine) where
    act_enabled : (history : List Event) (p : ℕ) (act : Act) (event : Event)
        → step_result machine setup (state_of machine history) p act ≡ Ok event → IsEnabled machine (state_of machine history) event
    act_enabled history = step_enabled machine lawful setup number (state_of machine history) range

    loss_enabled : (history : List Event) (name : MsgName) (p : ℕ) (event : Event)
        → loss_result setup (state_of machine history) name p ≡ Ok event → IsEnabled machine (state_of machine history) event
    loss_enabled history = lose_enabled machine lawful setup number (state_of machine history) refl

    rules_lawful : AreLawful (rules_of table setup) setup
    rules_lawful = record {
      shown = λ history p it h. let process = mapped _ _ it h in among history p process.0 process.1;
      among = λ history p act event h. let process = of_some _ _ _ event h in among history p process.0 process.1;
      step = λ history p act event h. enabled_of_run history event (act_enabled history p act event h);
      lose = λ history name p event h. enabled_of_run history event (loss_enabled history name p event h);
      again = λ history event taken h. again_same machine setup (state_of machine history) event taken h;
    }

    -- what is enabled was undone, and is taken again
    pub taken_again : (history : List Event) (event : Event) → IsEnabled machine (state_of machine history) event
        → again_result machine setup (state_of machine history) event ≡ Ok event
    taken_again history = enabled_again machine lawful setup number (state_of machine history) refl

    taken_by_its_act : (history : List Event) (event : Event) → IsEnabled machine (state_of machine history) event
        → taken_by (rules_of table setup) history event ≡ Ok event
    taken_by_its_act history (Step p k kind) enabled =
        let state = state_of machine history in
        let to = some_of _ enabled in
        let taken = taken_from machine state to.0 p k kind to.1 in
        step_by_act machine lawful setup number state p taken.process taken.at_process k kind enabled
    taken_by_its_act history (Lost copy) enabled = taken_again history (Lost copy) enabled

    rules_keep : HaveAgreement (rules_of table setup) setup
        → KeepHistories (rules_of table setup) (λ history other. fold machine history ≡ fold machine other) setup
    rules_keep agreement =
        record {
          nothing = refl;
          beginning = λ history more valid. reached_front_some _ _ history more valid;
          step = λ history valid p act event h. pushed history valid event (act_enabled history p act event h);
          lose = λ history valid name p event h. pushed history valid event (loss_enabled history name p event h);
          again = λ history valid event of_run h.
              pushed history valid event (again_enabled machine lawful setup number _ refl event event of_run h);
          last_again = λ history event valid. taken_again history event (last_enabled table setup range history event valid);
          last_taken = λ history event valid. taken_by_its_act history event (last_enabled table setup range history event valid);
          of_run = next_of_run table setup range;
          standing = λ history valid. valid_standing machine history valid (omega (arith, range.processes.1, number));
          exchanged = λ history other exchanged valid. subst IsSome (fold_exchanged machine history other exchanged) valid;
          same_state = λ history other exchanged. sym (fold_exchanged machine history other exchanged);
          exchanges = λ history other valid same. let to = some_of _ valid in same_state_exchanged machine history other to.0 to.1 (sym same ∙ to.1);
          shown = λ history other same. rw same (λ p. refl, refl, refl, refl);
          named = λ history valid i event at. subst (λ (n : ℕ). IsEventNamed n history (event_name event) i event) number
              (valid_named machine history valid i event at);
          losses_free = λ history valid i copy at. loss_free machine history valid i copy at;
          agreement = agreement.0;
          validity = agreement.1;
        }

-- ---- the rules of every run

pub rules_are_lawful : (setup : Parts) → AreInRange setup → AreLawful (rules setup) setup
rules_are_lawful setup range =
    of_every (λ rules. AreLawful rules setup) setup
    (rules_lawful leader_table setup range leader_laws.lawful) (rules_lawful alpha_table setup range alpha_laws.lawful)

-- whatever the history, each process receives
pub each_receives : (setup : Parts) → AreInRange setup → (history : List Event) → length ((rules setup).mail history).received ≡ setup.processes
each_receives setup range history =
    of_every (λ rules. length (rules.mail history).received ≡ setup.processes) setup
    (length-map _ _ ∙ processes_are leader_table setup range history) (length-map _ _ ∙ processes_are alpha_table setup range history)

-- and no more processes have a register
pub few_registers : (setup : Parts) → AreInRange setup → (history : List Event) → length ((rules setup).registers history).of_processes ≤ setup.processes
few_registers setup range history =
    of_every (λ rules. length (rules.registers history).of_processes ≤ setup.processes) setup
    (registers_are leader_table setup range history) (registers_are alpha_table setup range history)

pub rules_keep_histories : (setup : Parts) → AreInRange setup → KeepHistories (rules setup) (ReachSameState setup) setup
rules_keep_histories setup range = by_algorithm setup.algorithm (agreed setup range, proposed setup range)
  where
    by_algorithm : (algorithm : Algorithm) → HaveAgreement (rules_by algorithm setup) setup
        → KeepHistories (rules_by algorithm setup) (ReachSameStateBy algorithm setup) setup
    by_algorithm Leader = rules_keep leader_table setup range leader_laws.lawful
    by_algorithm Alpha = rules_keep alpha_table setup range alpha_laws.lawful
