-- Which events are enabled, which are refused, and what is taken again.
use Rattle.std.proofs.Common.{arith, ◌≡◌, ℕ, ◌+◌, Bool, true, false, ◌==◌, nat_le, List, [], ◌∷◌, length, Option, Some, None, IsSome, Ok, refl, sym, ◌∙◌}
use Rattle.std.proofs.Common.{subst, ◌≤◌, Result, Err, IsOk, IfSome}
use Rattle.std.specs.Option.{option_map_or}
use Rattle.std.proofs.lemmas.Grind.{common_steps}
use Rattle.std.proofs.lemmas.Option.{gets, same_Some}
use Rattle.std.proofs.lemmas.Bool.Decides.{nat_tests}
use Rattle.cdb_base.specs.Positions.{nth}
use Rattle.cdb_base.specs.declared.event.Event.{Event}
use Rattle.cdb_base.specs.declared.event.Event.TheVariants.{Step, Lost}
use Rattle.cdb_base.specs.declared.event.Kind.{Kind}
use Rattle.cdb_base.specs.declared.event.Kind.TheVariants.{Query, Recv}
use Rattle.cdb_base.specs.declared.payload.Payload.{Payload}
use Rattle.cdb_base.specs.declared.refusal.Refusal.{Refusal}
use Rattle.cdb_message.specs.Mail.{MailState, message_name, copy_name, sent_by, is_sent, is_received, is_lost}
use Rattle.cdb_rules.specs.Machines.{IsLawful}
use Rattle.cdb_rules.specs.Mail.{mail_of}
use Rattle.cdb_rules.specs.Refusals.{first_refusal, unless_refused, accepts_kind, named_kind, step_checks, named_event, planned, again_checks, again_result}
use Rattle.cdb_rules.specs.Refusals.{loss_result, NamesProcess, IsOfRun, act_for, accepts_act, step_result}
use Rattle.cdb_rules.specs.State.{Machine, ProcessState, RunState}
use Rattle.cdb_rules.specs.Step.{is_among, after, sight_in, meets, is_due, accepted}
use Rattle.cdb_rules.specs.InputsTaken.{arriving, input_of, taken_local}
use Rattle.cdb_rules.proofs.Taken.{sent_is, received_is, arrives, IsAccepted, parts, some_of, taken_from, mapped}
use Rattle.cdb_base.specs.declared.act.Act.{Act}
use Rattle.cdb_setup.specs.Parts.{Parts, AreInRange, IsWithin, answer_of}
use Rattle.cdb_setup.proofs.InRange.{answer_in_range}
use Rattle.cdb_base.specs.declared.name.CopyName.{CopyName}
use Rattle.cdb_base.specs.declared.name.MsgName.{MsgName}

-- none of the checks of a row holds
abbrev pub AllPass : List (Bool × Refusal) → Type 0
AllPass [] = Unit {0}
AllPass (check ∷ checks) = (check.0 ≡ false) × (AllPass checks)

all_pass : (checks : List (Bool × Refusal)) → first_refusal checks ≡ None → AllPass checks
all_pass [] h = tt
all_pass (check ∷ checks) h = grind (arith, common_steps, gets, all_pass checks)

none_refuses : (checks : List (Bool × Refusal)) → AllPass checks → first_refusal checks ≡ None
none_refuses [] pass = refl
none_refuses (check ∷ checks) pass = grind (arith, common_steps, gets, none_refuses checks)

-- an event that is answered was refused by nothing
unrefused : (why : Option Refusal) (named : Option Event) (event : Event) → unless_refused why named ≡ Ok event → (why ≡ None) × (named ≡ Some event)
unrefused why named event is = grind (arith, common_steps, gets)

unless_same : (why : Option Refusal) (event taken : Event) → unless_refused why (Some event) ≡ Ok taken → taken ≡ event
unless_same why event taken is = grind (arith, common_steps, gets)

-- what is answered of what stands, where anything does
pub of_some : {A : Type 0} (f : A → Result Event Refusal) (o : Option A) (why : Refusal) (event : Event)
    → option_map_or f o (Err why) ≡ Ok event → (a : A) × (o ≡ Some a) × (f a ≡ Ok event)
of_some f o why event is = grind (arith, common_steps, gets)

-- what a step asks for besides its process and its machine
abbrev pub Fits : {L : Type 0} → Machine L → MailState → ℕ → Kind → Type 0
Fits machine mail p (Query leader) = is_among (length machine.firsts) leader ≡ true
Fits machine mail p (Recv s m) =
    (is_sent mail (message_name s m) ≡ true) × (is_received mail p (message_name s m) ≡ false) × (is_lost mail (copy_name (message_name s m) p) ≡ false)
Fits machine mail p _ = Unit {0}

comes : (mail : MailState) (p s m : ℕ) → is_sent mail (message_name s m) ≡ true
    → is_lost mail (copy_name (message_name s m) p) ≡ false → (payload : Payload) × (arriving mail p (message_name s m) ≡ Some payload)
comes mail p s m sent kept = grind (arith, common_steps, gets)

within_among : (n : ℕ) (answer : Option ℕ) → IfSome answer (IsWithin 1 n) → (leader : ℕ) → answer ≡ Some leader → is_among n leader ≡ true
within_among n answer within leader answered = grind (arith, common_steps, gets)

module _ {L : Type 0} (machine : Machine L) (lawful : IsLawful machine) (setup : Parts)
    (number : length machine.firsts ≡ setup.processes) (state : RunState L) where
  module _ (p : ℕ) (process : ProcessState L) (at : nth state.processes p ≡ Some process) where
    abbrev local : L
    local = process.progress.local

    abbrev sends : ℕ
    sends = length (sent_by (mail_of state) p)

    abbrev accepts : Kind → Bool
    accepts kind = accepts_kind machine local sends state.registers kind

    -- A step is enabled exactly where its process can take it, its machine accepts it, and what it asks for is there.
    record IsReady (k : ℕ) (kind : Kind) : Type 0 where
      pub alive : process.progress.alive ≡ true
      pub going : machine.done local ≡ false
      pub numbered : (k == process.progress.steps + 1) ≡ true
      pub limit : nat_le k 9999 ≡ true
      pub accepted : accepts kind ≡ true
      pub fits : Fits machine (mail_of state) p kind

    -- what the machine accepts is due, is met, and leads on

    due : (kind : Kind) → accepts kind ≡ true → Fits machine (mail_of state) p kind → is_due machine process kind ≡ true
    due kind accepted fits =
        grind (arith, common_steps, gets, sent_is state p process at, received_is state p process at, lawful.send local, lawful.write local)

    met : (kind : Kind) → accepts kind ≡ true → Fits machine (mail_of state) p kind → meets kind (sight_in state p kind) ≡ true
    met kind accepted fits = grind (arith, common_steps, gets, comes (mail_of state) p)

    leads_on : (kind : Kind) → accepts kind ≡ true → Fits machine (mail_of state) p kind
        → IsSome (taken_local machine.next local (input_of kind (sight_in state p kind)))
    leads_on kind accepted fits = grind (arith, common_steps, gets, comes (mail_of state) p, lawful.query local, lawful.recv local)

    ready_enabled : (k : ℕ) (kind : Kind) → IsReady k kind → IsSome (after machine state (Step p k kind))
    ready_enabled k kind r =
        let its_due = due kind r.accepted r.fits in
        let is_met = met kind r.accepted r.fits in
        let next = leads_on kind r.accepted r.fits in
        grind (arith, common_steps, gets)

    enabled_ready : (k : ℕ) (kind : Kind) → IsSome (after machine state (Step p k kind)) → IsReady k kind
    enabled_ready k kind enabled =
        let to = some_of (after machine state (Step p k kind)) enabled in
        let t = taken_from machine state to.0 p k kind to.1 in
        let same = same_Some t.process process (sym t.at_process ∙ at) in
        let a = subst (λ (x : ProcessState L). IsAccepted machine x k kind (sight_in state p kind) t.next) same (parts machine state to.0 p k kind t) in
        grind (arith, common_steps, gets, nat_tests, arrives (mail_of state) p, received_is state p process at)

    -- the event that is answered to an act is the next step of the process, and enabled
    planned_enabled : AreInRange setup → (do_act : Act) (event : Event)
        → planned machine setup (mail_of state) state.registers process.progress p do_act ≡ Ok event → IsSome (after machine state event)
    planned_enabled range do_act event h =
        let answer = answer_of setup p (process.progress.queries + 1) in
        let answers = within_among setup.processes answer (answer_in_range setup p (process.progress.queries + 1) range) in
        let checks = step_checks machine setup (mail_of state) state.registers process.progress p do_act in
        let clear = unrefused (first_refusal checks) (named_event machine setup (mail_of state) process.progress p do_act) event h in
        let pass = all_pass checks clear.0 in
        let named = mapped (Step p (process.progress.steps + 1)) (named_kind (machine.wish local) sends answer do_act) event clear.1 in
        let accepted : accepts named.0 ≡ true = let is = named.1 in grind (arith, common_steps, gets) in
        let fits : Fits machine (mail_of state) p named.0 = let is = named.1 in grind (arith, common_steps, gets, answers) in
        subst (λ e. IsSome (after machine state e)) named.2
        (ready_enabled (process.progress.steps + 1) named.0 (grind (arith, common_steps, gets, nat_tests)))

    -- of a kind that the machine accepts it wishes what the act stands for
    names_it : (answer : Option ℕ) (kind : Kind) → accepts kind ≡ true → named_kind (machine.wish local) sends answer (act_for kind) ≡ Some kind
    names_it answer kind h = grind (arith, common_steps, gets, lawful.send local, lawful.read local, lawful.write local, lawful.local local)

    accepts_it : (kind : Kind) → accepts kind ≡ true → accepts_act machine local sends state.registers (act_for kind) ≡ true
    accepts_it kind h = grind (arith, common_steps, gets, names_it None kind h)

    -- an enabled step is what its act takes, and taken again
    pub step_by_act : (k : ℕ) (kind : Kind) → IsSome (after machine state (Step p k kind))
        → step_result machine setup state p (act_for kind) ≡ Ok (Step p k kind)
    step_by_act k kind enabled =
        let r = enabled_ready k kind enabled in
        let accepts = accepts_it kind r.accepted in
        let checks = step_checks machine setup (mail_of state) state.registers process.progress p (act_for kind) in
        let pass : AllPass checks = grind (arith, common_steps, gets, nat_tests) in
        let named = names_it (answer_of setup p (process.progress.queries + 1)) kind r.accepted in
        let next : process.progress.steps + 1 ≡ k = grind (arith, nat_tests) in
        rw (at, none_refuses checks pass, named, next)

    abbrev checks_again : ℕ → Kind → List (Bool × Refusal)
    checks_again k kind = again_checks machine (mail_of state) state.registers process.progress p k kind

    step_again : (k : ℕ) (kind : Kind) → IsSome (after machine state (Step p k kind)) → again_result machine setup state (Step p k kind) ≡ Ok (Step p k kind)
    step_again k kind enabled =
        let r = enabled_ready k kind enabled in
        let pass : AllPass (checks_again k kind) = grind (arith, common_steps, gets) in
        rw (at, none_refuses (checks_again k kind) pass)

    ready_where_pass : (k : ℕ) (kind : Kind) → k ≤ 9999 → NamesProcess setup.processes kind → AllPass (checks_again k kind) → IsReady k kind
    ready_where_pass k kind limit names pass = grind (arith, common_steps, gets, nat_tests)

  -- the event that is answered to an act can be taken
  pub step_enabled : AreInRange setup → (p : ℕ) (do_act : Act) (event : Event) → step_result machine setup state p do_act ≡ Ok event
      → IsSome (after machine state event)
  step_enabled range p do_act event h =
      let process = of_some _ (nth state.processes p) _ event h in planned_enabled p process.0 process.1 range do_act event process.2

  module _ (loses : machine.loses_copies ≡ (setup.version == 2)) where
    -- so can a loss
    loss_enabled : (copy : CopyName) (event : Event) → again_result machine setup state (Lost copy) ≡ Ok event → IsSome (after machine state (Lost copy))
    loss_enabled copy event h = grind (arith, common_steps, gets)

    pub lose_enabled : (name : MsgName) (p : ℕ) (event : Event) → loss_result setup state name p ≡ Ok event → IsSome (after machine state event)
    lose_enabled name p event h = rw (unless_same _ (Lost (copy_name name p)) event h) (loss_enabled (copy_name name p) event h)

    loss_again : (copy : CopyName) → IsSome (after machine state (Lost copy)) → again_result machine setup state (Lost copy) ≡ Ok (Lost copy)
    loss_again copy enabled = grind (arith, common_steps, gets)

    -- and an event of the run that is taken again
    pub again_enabled : (event taken : Event) → IsOfRun setup event → again_result machine setup state event ≡ Ok taken → IsSome (after machine state event)
    again_enabled (Step p k kind) taken of_run h =
        let process = of_some _ (nth state.processes p) _ taken h in
        let clear = unrefused (first_refusal (checks_again p process.0 process.1 k kind)) (Some (Step p k kind)) taken process.2 in
        ready_enabled p process.0 process.1 k kind
        (ready_where_pass p process.0 process.1 k kind of_run.1.1 of_run.2 (all_pass (checks_again p process.0 process.1 k kind) clear.0))
    again_enabled (Lost copy) taken of_run h = loss_enabled copy taken h

    pub enabled_again : (event : Event) → IsSome (after machine state event) → again_result machine setup state event ≡ Ok event
    enabled_again (Step p k kind) enabled =
        let to = some_of (after machine state (Step p k kind)) enabled in
        let t = taken_from machine state to.0 p k kind to.1 in
        step_again p t.process t.at_process k kind enabled
    enabled_again (Lost copy) enabled = loss_again copy enabled

-- what is taken again is the event
pub again_same : {L : Type 0} (machine : Machine L) (setup : Parts) (state : RunState L) (event taken : Event)
    → again_result machine setup state event ≡ Ok taken → taken ≡ event
again_same machine setup state (Step p k kind) taken h =
    let process = of_some _ (nth state.processes p) _ taken h in unless_same _ (Step p k kind) taken process.2
again_same machine setup state (Lost copy) taken h = unless_same _ (Lost copy) taken h

pub ok_of : (returned : Result Event Refusal) → IsOk returned → (event : Event) × (returned ≡ Ok event)
ok_of returned ok = grind (arith, common_steps, gets)
