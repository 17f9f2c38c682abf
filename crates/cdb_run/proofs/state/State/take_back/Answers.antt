use Rattle.std.proofs.lemmas.Grind.{common_steps}
use Rattle.std.proofs.lemmas.Option.{gets, same_Some}
use Rattle.std.proofs.Common.{◌≡◌, ℕ, zero, suc, ◌+◌, ◌≤◌, true, List, [], ◌∷◌, length, Some, Option, get_or, slice_set, refl, ap, sym, ◌∙◌, arith}
use Rattle.cdb_base.specs.Positions.{nth, set_nth}
use Rattle.cdb_base.specs.declared.event.Kind.{Kind}
use Rattle.cdb_base.specs.declared.event.Kind.TheVariants.{Send, Recv, Write}
use Rattle.cdb_base.specs.declared.name.MsgName.{MsgName}
use Rattle.cdb_base.specs.declared.payload.Payload.{Payload}
use Rattle.cdb_base.specs.declared.register.Cell.{Cell}
use Rattle.cdb_base.specs.declared.register.Reg.{Reg}
use Rattle.cdb_message.specs.Mail.{MailState, message_name, received_by, is_received, add_send, add_receive}
use Rattle.cdb_process.specs.Table.{Table}
use Rattle.cdb_process.specs.Wishes.{wished_payload, wished_cell}
use Rattle.cdb_message.proofs.Sets.{name_cmp_total}
use Rattle.cdb_register.specs.Registers.{RegisterStates, HasRegister, HasWrite, after_write, cell_of}
use Rattle.cdb_register.specs.declared.RegisterState.{RegisterState}
use Rattle.cdb_causal.proofs.Lists.{nth_within}
use Rattle.cdb_rules.proofs.Members.{joins}
use Rattle.cdb_rules.proofs.Undo.{stands_from_one}
use Rattle.cdb_rules.proofs.Positions.{set_at, set_nth_same, nth-set_nth_same, nth-update_nth_same}
use Rattle.cdb_rules.proofs.Taken.{some_of}
use Rattle.cdb_rules.specs.InputsTaken.{mail_after, registers_after, progress_after}
use Rattle.cdb_rules.specs.declared.progress.Progress.{Progress}
use Rattle.cdb_run.specs.Current.{Held}
use Rattle.cdb_run.specs.Stepped.{MayStepFrom, HasStepped, HasCounted}
use Rattle.cdb_run.proofs.Held.{stands_at}
use Rattle.cdb_run.proofs.Views.{found_there}
use Rattle.cdb_run.proofs.state.State.take_back.Goals as goal
use Rattle.cdb_standing.specs.declared.recorded.UndoData.{UndoData}

set_again : {A : Type 0} (xs : List A) (p : ℕ) (x y : A) → set_nth (set_nth xs p x) p y ≡ set_nth xs p y
set_again xs zero x y = refl
set_again [] (suc i) x y = refl
set_again (z ∷ zs) (suc zero) x y = refl
set_again (z ∷ zs) (suc (suc i)) x y = ap (λ l. z ∷ l) (set_again zs (suc i) x y)

kept_mail : (was : MailState) (p : ℕ) (kind : Kind) (payload : Option Payload) → ((m : ℕ) → kind ≡ Send m → ⊥) → ((q m : ℕ) → kind ≡ Recv q m → ⊥)
    → mail_after was p kind payload ≡ was
kept_mail was p (Send m) payload sends receives = absurd (sends m refl)
kept_mail was p (Recv q m) payload sends receives = absurd (receives q m refl)
kept_mail was p _ payload sends receives = refl

kept_registers : (was : RegisterStates) (kind : Kind) (cell : Option Cell) → ((register : Reg) → kind ≡ Write register → ⊥)
    → registers_after was kind cell ≡ was
kept_registers was (Write register) cell writes = absurd (writes register refl)
kept_registers was _ cell writes = refl

has_received : (mail : MailState) (p : ℕ) (name : MsgName) → 1 ≤ p → p ≤ length mail.received → is_received (add_receive mail p name) p name ≡ true
has_received mail p name from_one within =
    let stands = stands_at mail.received p from_one within in
    rw (nth-set_nth_same mail.received p _ stands.0 stands.1) (joins name_cmp_total (received_by mail p) name)

restorable : (was : RegisterStates) (register : Reg) (cell : Cell) → HasRegister was register
    → HasRegister (after_write was register cell) register × HasWrite (after_write was register cell) register
restorable was register cell here = grind (arith, common_steps, gets, nth-update_nth_same {A = RegisterState})

-- of a step that led here: what its process came to, and what it sent, received or wrote
module _ {L B : Type 0} {table : Table L} {before : L → B → L} {was now : Held L} {p : ℕ} {kind : Kind} {left : UndoData B}
    (s : HasStepped table before was p kind left now) where
  from : MayStepFrom table was p kind s.progress
  from = s.may.from s.progress s.stood

  there : nth now.processes p ≡ Some (progress_after s.progress kind s.next)
  there = ap (λ (held : Held L). nth held.processes p) s.after ∙ nth-set_nth_same was.processes p _ s.progress s.stood

  processes_again : set_nth now.processes p s.progress ≡ was.processes
  processes_again =
      ap (λ (held : Held L). set_nth held.processes p s.progress) s.after ∙ set_again was.processes p _ s.progress
      ∙ set_nth_same was.processes p s.progress s.stood

  sent_it : (m : ℕ) → kind ≡ Send m → (payload : Payload) × (now.mail ≡ add_send was.mail p payload)
  sent_it m is =
      let payload = some_of (wished_payload (table.wish s.progress.local)) (rw is at from.due) in
      (payload.0, rw is at (ap (λ (held : Held L). held.mail) s.after) ∙ ap (mail_after was.mail p (Send m)) payload.1)

  received_it : (q m : ℕ) → kind ≡ Recv q m → now.mail ≡ add_receive was.mail p (message_name q m)
  received_it q m is = rw is at (ap (λ (held : Held L). held.mail) s.after)

  wrote_it : (register : Reg) → kind ≡ Write register
      → (cell : Cell) × (now.registers ≡ after_write was.registers register cell) × HasRegister was.registers register
      × (left.overwritten ≡ cell_of was.registers register)
  wrote_it register is =
      let due = rw is at from.due in
      let cell = some_of (wished_cell (table.wish s.progress.local)) due.2 in (
        cell.0,
        rw is at (ap (λ (held : Held L). held.registers) s.after) ∙ ap (registers_after was.registers (Write register)) cell.1,
        due.0,
        rw is at s.overwritten,
      )

  its_progress : (i : ℕ) (progress : Progress L) → i + 1 ≡ p → progress ≡ get_or now.processes i progress
      → HasCounted before s.progress kind left.back progress
  its_progress i progress at is =
      let found = found_there now.processes i p progress at (nth_within now.processes p _ there) is in
      record { next = s.next; after = same_Some _ _ (sym found ∙ there); alive = from.alive; back = s.back }

  abbrev led : ℕ → Progress L → MailState → RegisterStates → Held L
  led i came mail registers = record { processes = slice_set now.processes i came; mail = mail; registers = registers }

  led_back : (i : ℕ) (came : Progress L) (mail : MailState) (registers : RegisterStates) → i + 1 ≡ p → came ≡ s.progress → mail ≡ was.mail
      → registers ≡ was.registers → led i came mail registers ≡ was
  led_back i came mail registers at progress mail_is registers_is =
      λ j. record {
        processes = (set_at now.processes i p came at ∙ ap (set_nth now.processes p) progress ∙ processes_again) j;
        mail = mail_is j;
        registers = registers_is j;
      }

pub count_back-requires : goal.count_back-requires
count_back-requires g c =
    let s = c.requires.1 in
    (s.progress, its_progress s c.index.result c.index_mut-progress.result.now c.index.ensures.value c.index_mut-progress.ensures.value)

pub take_back_recv-requires-clause-received : goal.take_back_recv-requires-clause-received
take_back_recv-requires-clause-received g c =
    let s = c.requires.1 in
    let was = c.requires.0 in
    rw (received_it s c.in-Recv.s c.in-Recv.m c.in-Recv.is)
    (has_received was.mail c.args.p (message_name c.in-Recv.s c.in-Recv.m) (stands_from_one was.processes c.args.p s.progress s.stood)
    (rw c.in-Recv.is at (from s).postable).0)

pub restore-requires-clause-here : goal.restore-requires-clause-here
restore-requires-clause-here g c =
    let wrote = wrote_it c.requires.1 c.in-Write.register c.in-Write.is in
    rw wrote.1 (restorable c.requires.0.registers c.in-Write.register wrote.0 wrote.2).0

pub restore-requires-clause-standing : goal.restore-requires-clause-standing
restore-requires-clause-standing g c =
    let wrote = wrote_it c.requires.1 c.in-Write.register c.in-Write.is in
    rw wrote.1 (restorable c.requires.0.registers c.in-Write.register wrote.0 wrote.2).1

pub returns-in-Send : goal.returns-in-Send
returns-in-Send g c = λ was s.
    let counted = its_progress s c.index.result c.index_mut-progress.result.now c.index.ensures.value c.index_mut-progress.ensures.value in
    let sent = sent_it s c.in-Send.field-0 c.in-Send.is in
    led_back s c.index.result c.count_back.new.progress c.take_back_send.new.self c.args.self.now.registers c.index.ensures.value
    (c.count_back.ensures s.progress counted) (c.take_back_send.ensures.undoes was.mail sent.0 sent.1)
    (rw c.in-Send.is at (ap (λ (held : Held _). held.registers) s.after))

pub returns-in-Recv : goal.returns-in-Recv
returns-in-Recv g c = λ was s.
    let counted = its_progress s c.index.result c.index_mut-progress.result.now c.index.ensures.value c.index_mut-progress.ensures.value in
    led_back s c.index.result c.count_back.new.progress c.take_back_recv.new.self c.args.self.now.registers c.index.ensures.value
    (c.count_back.ensures s.progress counted)
    (c.take_back_recv.ensures.undoes was.mail (rw c.in-Recv.is at (from s).postable).2 (received_it s c.in-Recv.s c.in-Recv.m c.in-Recv.is))
    (rw c.in-Recv.is at (ap (λ (held : Held _). held.registers) s.after))

pub returns-in-Some : goal.returns-in-Some
returns-in-Some g c = λ was s.
    let counted = its_progress s c.index.result c.index_mut-progress.result.now c.index.ensures.value c.index_mut-progress.ensures.value in
    let wrote = wrote_it s c.in-Write.register c.in-Write.is in
    led_back s c.index.result c.count_back.new.progress c.args.self.now.mail c.restore.new.self c.index.ensures.value
    (c.count_back.ensures s.progress counted) (rw c.in-Write.is at (ap (λ (held : Held _). held.mail) s.after))
    (c.restore.ensures.undoes was.registers wrote.0 wrote.1 (rw c.in-Some.is (sym wrote.3 ∙ c.in-Some.is)))

pub returns-in_default : goal.returns-in_default
returns-in_default g c = λ was s.
    let counted = its_progress s c.index.result c.index_mut-progress.result.now c.index.ensures.value c.index_mut-progress.ensures.value in
    led_back s c.index.result c.count_back.new.progress c.args.self.now.mail c.args.self.now.registers c.index.ensures.value
    (c.count_back.ensures s.progress counted)
    (ap (λ (held : Held _). held.mail) s.after ∙ kept_mail was.mail c.args.p c.args.kind.now _ c.in_default.not-Send c.in_default.not-Recv)
    (ap (λ (held : Held _). held.registers) s.after ∙ kept_registers was.registers c.args.kind.now _ c.in_default.not-Write)
