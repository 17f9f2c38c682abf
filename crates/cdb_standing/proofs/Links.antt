-- Why a standing event depends on an earlier one: both are steps of one process, it receives or loses what that one sends, or both access one register.
use Rattle.std.proofs.lemmas.Grind.{common_steps}
use Rattle.std.proofs.lemmas.Bool.{or_cases}
use Rattle.std.proofs.lemmas.Option.{none-some, gets}
use Rattle.std.proofs.Common.{◌≡◌, ℕ, ◌<◌, ◌≤◌, List, true, true≢false, ◌&&◌, ◌||◌, nat_eq, eqb-true, Option, Some}
use Rattle.std.proofs.Common.{◌⊎◌, inl, inr, ⊎_elim, refl, sym, ◌∙◌, arith}
use Rattle.cdb_base.specs.declared.event.Event.{Event}
use Rattle.cdb_base.specs.declared.event.Event.TheVariants as event
use Rattle.cdb_base.specs.declared.event.Kind.{Kind}
use Rattle.cdb_base.specs.declared.event.Kind.TheVariants.{Send, Recv, Read, Write}
use Rattle.cdb_base.specs.declared.name.CopyName.{CopyName}
use Rattle.cdb_base.specs.declared.register.Reg.{Reg}
use Rattle.cdb_causal.specs.Dependence.{depends, sends, receives, accesses}
use Rattle.cdb_causal.specs.Effects.{kind_affects}
use Rattle.cdb_causal.proofs.Symmetry.{by_effect, symmetric}
use Rattle.cdb_standing.specs.Accesses.{number_of, accessed, written, cell, AreListed}
use Rattle.cdb_standing.specs.Dependents.{IsDependent, IsMail, AreInConflict, AreConflicts, Needs, process_of}
use Rattle.cdb_standing.specs.Tables.{row_of, steps_of, sent_of, entry_of, IsEntry, IsCopy, Stands, ComesFirst, IsSound}
use Rattle.cdb_standing.specs.declared.tables.Access.{Access}
use Rattle.cdb_standing.specs.declared.tables.Copied.TheVariants.{Lost}
use Rattle.cdb_standing.specs.declared.tables.Tables.{Tables}
use Rattle.cdb_standing.proofs.AccessLists.{is_listed, listed_is, list_rising}
use Rattle.cdb_standing.proofs.Rows.{same_copy, nth_within, is_row}

pub turned : {kind other : Kind} → AreInConflict kind other → AreInConflict other kind
turned c = record { n = c.n; one = c.two; two = c.one; written = ⊎_elim (λ e. inr e) (λ e. inl e) c.written }

-- why the second event depends on the first
abbrev pub Why : Event → Event → Type 0
Why (event.Step p k kind) (event.Step q l other) = (p ≡ q) ⊎ Needs (event.Step p k kind) (event.Step q l other)
Why one other = Needs one other

-- what is in conflict with a read writes its register, and with a write accesses it
pub with_read : (x : Reg) (other : Kind) → AreInConflict (Read x) other → written other ≡ Some (number_of x)
with_read x other c = grind (arith, common_steps, gets)

pub read_with : (x : Reg) (other : Kind) → written other ≡ Some (number_of x) → AreInConflict (Read x) other
read_with x (Write y) is = record { n = number_of x; one = refl; two = is; written = inr refl }
read_with x _ is = absurd (none-some (number_of x) is)

pub with_write : (x : Reg) (other : Kind) → AreInConflict (Write x) other → accessed other ≡ Some (number_of x)
with_write x other c = c.two ∙ sym c.one

pub write_with : (x : Reg) (other : Kind) → accessed other ≡ Some (number_of x) → AreInConflict (Write x) other
write_with x other is = record { n = number_of x; one = refl; two = is; written = inl refl }

-- so these are on its list
pub conflicts_are : {t : Tables} → IsSound t → {of : Kind → Option ℕ} {table : List (List Access)} → AreListed of table t
    → (q n : ℕ) → 1 ≤ q → q ≤ 9 → n < 11 → {kind : Kind} → ((other : Kind) → AreInConflict kind other → of other ≡ Some n)
    → ((other : Kind) → of other ≡ Some n → AreInConflict kind other) → AreConflicts t q kind (row_of table (cell q n))
conflicts_are sound lists q n one nine few only each =
    record {
      rising = list_rising sound lists q n one nine few;
      only = λ it h. let is = listed_is lists q n one nine few it h in (is.0, is.1, each is.0 is.2);
      each = λ l mark other at c. is_listed lists q n one nine few l mark other at (only other c);
    }

sends_is : (s m p : ℕ) (kind : Kind) → sends s m p kind ≡ true → (p ≡ s) × (kind ≡ Send m)
sends_is s m p kind e = grind (arith, common_steps, gets)

receives_is : (s m : ℕ) (kind : Kind) → receives s m kind ≡ true → kind ≡ Recv s m
receives_is s m kind e = grind (arith, common_steps, gets)

accesses_is : (x : Reg) (kind : Kind) → accesses x kind ≡ true → accessed kind ≡ Some (number_of x)
accesses_is x kind e = grind (arith, common_steps, gets)

why_affected : (p : ℕ) (kind other : Kind) → kind_affects p kind other ≡ true → IsMail p kind other ⊎ AreInConflict kind other
why_affected p (Send m) other e = inl (record { m = m; sends = refl; receives = receives_is p m other e })
why_affected p (Write x) other e = inr (record { n = number_of x; one = refl; two = accesses_is x other e; written = inl refl })
why_affected p _ other e = absurd (true≢false (sym e))

pub links : (one other : Event) → Why one other → depends one other ≡ true
links one other is = grind (arith, common_steps, gets)

pub same_entry : (t : Tables) (p k : ℕ) {a b : ℕ} {kind other : Kind} → IsEntry t p k a kind → IsEntry t p k b other
    → (a ≡ b) × (kind ≡ other)
same_entry t p k one two = grind (arith, common_steps, gets)

module _ {t : Tables} (sound : IsSound t) where
  sends_lost : (copy : CopyName) {a : ℕ} (q j b : ℕ) (other : Kind) → IsCopy (sent_of t) copy.msg.s copy.msg.m copy.to (Lost a) → IsEntry t q j b other
      → depends (event.Step q j other) (event.Lost copy) ≡ true → (q ≡ copy.msg.s) × (other ≡ Send copy.msg.m)
  sends_lost copy q j b other lost at linked =
      let cases =
      or_cases (sends copy.msg.s copy.msg.m q other) (nat_eq q copy.to && receives copy.msg.s copy.msg.m other)
      (sym (by_effect (event.Step q j other) (event.Lost copy)) ∙ linked) in
      let got = sound.is_received copy.msg.s copy.msg.m q j b in
      grind (arith, common_steps, sends_is, receives_is, same_copy, eqb-true)

  by_events : (one other : Event) {a b : ℕ} → IsDependent t one a b other → Why one other
  by_events (event.Step p k kind) (event.Step q l other) {a} {b} d =
      elim (or_cases (nat_eq p q) (kind_affects p kind other || kind_affects q other kind)
      (sym (by_effect (event.Step p k kind) (event.Step q l other)) ∙ d.linked)) [
        | inl own ↦ inl (eqb-true p q own)
        | inr others ↦ inr (elim (or_cases (kind_affects p kind other) (kind_affects q other kind) others) [
          | inl e ↦ why_affected p kind other e
          | inr e ↦ ⊎_elim
              (λ (mail : IsMail q other kind).
              let first =
              sound.marked.first b a (event.Step q l other) (event.Step p k kind) d.effect d.cause (inr (mail.m, mail.sends, inl mail.receives)) in
              let later = d.later in absurd (omega arith))
              (λ c. inr (turned c)) (why_affected q other kind e)
        ])
      ]
  by_events (event.Step p k kind) (event.Lost copy) {a} d = sends_lost copy p k a kind d.effect d.cause d.linked
  by_events (event.Lost copy) (event.Step p k kind) {a} {b} d =
      let is = sends_lost copy p k b kind d.cause d.effect (symmetric (event.Step p k kind) (event.Lost copy) ∙ d.linked) in
      let first = sound.marked.first b a (event.Step p k kind) (event.Lost copy) d.effect d.cause is in
      let later = d.later in absurd (omega arith)
  by_events (event.Lost copy) (event.Lost other) d = absurd (true≢false (sym (sym (by_effect (event.Lost copy) (event.Lost other)) ∙ d.linked)))

  pub why : {one other : Event} {a b : ℕ} → IsDependent t one a b other → Why one other
  why {one} {other} d = by_events one other d

  -- the marks of one process rise with its numbers
  pub rises : (p k l a b : ℕ) (kind other : Kind) → IsEntry t p k a kind → IsEntry t p l b other → k < l → a < b
  rises p k l a b kind other here there less = sound.marked.first a b (event.Step p k kind) (event.Step p l other) here there (inl (refl, less))

  pub mark_le : (p k l a b : ℕ) (kind other : Kind) → IsEntry t p k a kind → IsEntry t p l b other → k ≤ l → a ≤ b
  mark_le p k l a b kind other here there le = grind (arith, rises p k l a b kind other here there)

  pub number_le : (p k l a b : ℕ) (kind other : Kind) → IsEntry t p k a kind → IsEntry t p l b other → a ≤ b → k ≤ l
  number_le p k l a b kind other here there le = grind (arith, rises p l k b a other kind there here)

  pub number_below : (p k l a b : ℕ) (kind other : Kind) → IsEntry t p k a kind → IsEntry t p l b other → a < b → k < l
  number_below p k l a b kind other here there less = grind (arith, mark_le p l k b a other kind there here)

  pub process_within : (p k a : ℕ) (kind : Kind) → IsEntry t p k a kind → (1 ≤ p) × (p ≤ 9)
  process_within p k a kind at =
      let within = nth_within (steps_of t) p (row_of (steps_of t) p) (is_row (steps_of t) p k (entry_of a kind) at) in (within.0, omega arith)

  pub process_to_nine : (mark : ℕ) (it : Event) → Stands t mark it → process_of it ≤ 9
  process_to_nine mark it at = grind (arith, common_steps, gets)

  -- the dependents by their reasons
  pub by_reason : (one other : Event) {a b : ℕ} → Stands t a one → Stands t b other → a < b → Why one other
      → IsDependent t one a b other
  by_reason one other here there less is = record { cause = here; effect = there; later = less; linked = links one other is }

  first_dependent : (one other : Event) {a b : ℕ} → Stands t a one → Stands t b other → ComesFirst one other → Why one other
      → IsDependent t one a b other
  first_dependent one other {a} {b} here there comes is = by_reason one other here there (sound.marked.first a b one other here there comes) is

  pub own_dependent : (p : ℕ) {k l a b : ℕ} {kind other : Kind} → IsEntry t p k a kind → IsEntry t p l b other → k < l
      → IsDependent t (event.Step p k kind) a b (event.Step p l other)
  own_dependent p {k} {l} {kind = kind} {other} here there less =
      first_dependent (event.Step p k kind) (event.Step p l other) here there (inl (refl, less)) (inl refl)

  pub receive_dependent : (p m : ℕ) {k q l a b : ℕ} → IsEntry t p k a (Send m) → IsEntry t q l b (Recv p m)
      → IsDependent t (event.Step p k (Send m)) a b (event.Step q l (Recv p m))
  receive_dependent p m {k} {q} {l} here there =
      first_dependent (event.Step p k (Send m)) (event.Step q l (Recv p m)) here there
      (inr (m, refl, inl refl)) (inr (inl (record { m = m; sends = refl; receives = refl })))

  pub loss_dependent : (copy : CopyName) {k a b : ℕ} → IsEntry t copy.msg.s k a (Send copy.msg.m)
      → IsCopy (sent_of t) copy.msg.s copy.msg.m copy.to (Lost b) → IsDependent t (event.Step copy.msg.s k (Send copy.msg.m)) a b (event.Lost copy)
  loss_dependent copy {k} here there = first_dependent (event.Step copy.msg.s k (Send copy.msg.m)) (event.Lost copy) here there (refl, refl) (refl, refl)

  pub conflict_dependent : {p k a : ℕ} {kind : Kind} {q l b : ℕ} {other : Kind} → IsEntry t p k a kind → IsEntry t q l b other → a < b
      → AreInConflict kind other → IsDependent t (event.Step p k kind) a b (event.Step q l other)
  conflict_dependent {p} {k} {a} {kind} {q} {l} {b} {other} here there less c =
      by_reason (event.Step p k kind) (event.Step q l other) here there less (inr (inr c))
