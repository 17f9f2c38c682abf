-- What one event more adds to the names of the messages that the processes have received.
use Rattle.std.proofs.Common.{◌≡◌, ◌<◌, ℕ, zero, suc, ◌+◌, Bool, false, ◌==◌, List, [], ◌∷◌, ◌++◌, Option, Some}
use Rattle.std.proofs.Common.{None, set, get_or, map, if◌then◌else◌, refl, sym, ap, ◌∙◌, append-nil, arith}
use Rattle.std.specs.Prelude.{option_to_list}
use Rattle.std.specs.List.{range_with_len}
use Rattle.std.proofs.lemmas.Bool.{eq-eqb}
use Rattle.std.proofs.lemmas.Bool.Decides.{nat_tests}
use Rattle.std.proofs.lemmas.Grind.{flat_map-append}
use Rattle.std.proofs.lemmas.List.FromFn.{get_or-map-range_with_len}
use Rattle.cdb_base.specs.Processes as Processes
use Rattle.cdb_base.specs.declared.event.Event.{Event}
use Rattle.cdb_base.specs.declared.event.Event.TheVariants.{Step}
use Rattle.cdb_base.specs.declared.event.Kind.TheVariants.{Recv}
use Rattle.cdb_base.specs.declared.name.MsgName.{MsgName}
use Rattle.cdb_message.specs.Mail.{message_name}
use Rattle.cdb_deeds.specs.Deeds.{received_at, received_by_each, received_names}

not_same : (p q : ℕ) → (p ≡ q → ⊥) → (p == q) ≡ false
not_same p q differs = grind (arith, nat_tests)

module _ {X : Type 0} (f g : ℕ → X) where
  same_after : (a n : ℕ) → ((q : ℕ) → a < q + 1 → g q ≡ f q) → map g (range_with_len a n) ≡ map f (range_with_len a n)
  same_after a zero same = refl
  same_after a (suc n) same =
      let here : a < a + 1 = omega arith in
      λ k. same a here k ∷ same_after (a + 1) n (λ q later. same q (omega (arith, later))) k

  -- the two differ at one number alone
  one_set : (a n i : ℕ) → ((q : ℕ) → (q ≡ a + i → ⊥) → g q ≡ f q) → map g (range_with_len a n) ≡ set (map f (range_with_len a n)) i (g (a + i))
  one_set a zero i same = refl
  one_set a (suc n) zero same =
      let at : a ≡ a + 0 = omega arith in
      λ k. g (at k) ∷ same_after (a + 1) n (λ q later. same q (λ is. omega (arith, later, is))) k
  one_set a (suc n) (suc i) same =
      let at : (a + 1) + i ≡ a + suc i = omega arith in
      let other : a ≡ a + suc i → ⊥ = λ is. omega (arith, is) in
      λ k. same a other k
      ∷ (one_set (a + 1) n i (λ q differs. same q (λ is. differs (is ∙ sym at))) ∙ ap (λ (j : ℕ). set (map f (range_with_len (a + 1) n)) i (g j)) at) k

-- what stands in a row
pub row_read : {X Y : Type 0} (f : X → Y) (xs : List X) (i : ℕ) (x : X) → x ≡ get_or xs i x → f x ≡ get_or (map f xs) i (f x)
row_read f [] i x is = refl
row_read f (x ∷ xs) zero y is = ap f is
row_read f (x ∷ xs) (suc i) y is = row_read f xs i y is

module _ (history : List Event) where
  -- that of a process
  pub names_read : (rows : List (List MsgName)) → rows ≡ received_by_each history
      → (i p : ℕ) (d : List MsgName) → i + 1 ≡ p → i < 9 → get_or rows i d ≡ received_names p history
  unfolding Processes.all_processes
  names_read rows are i p d at less = rw are (get_or-map-range_with_len (λ q. received_names q history) 1 9 i p d less (omega arith))

  one_more : (p : ℕ) (event : Event) → received_names p (history ++ event ∷ []) ≡ received_names p history ++ option_to_list (received_at p event)
  one_more p event =
      let names = λ (e : Event). option_to_list (received_at p e) in
      flat_map-append names history (event ∷ []) ∙ ap (λ (ns : List MsgName). received_names p history ++ ns) (append-nil (names event))

  nothing_more : (p : ℕ) (event : Event) → received_at p event ≡ None → received_names p (history ++ event ∷ []) ≡ received_names p history
  nothing_more p event none =
      one_more p event ∙ ap (λ o. received_names p history ++ option_to_list o) none ∙ append-nil (received_names p history)

  -- what its process receives
  pub received_more : (i p k s m : ℕ) → i + 1 ≡ p
      → received_by_each (history ++ Step p k (Recv s m) ∷ []) ≡ set (received_by_each history) i (received_names p history ++ message_name s m ∷ [])
  unfolding Processes.all_processes
  received_more i p k s m at =
      one_set (λ q. received_names q history) (λ q. received_names q (history ++ event ∷ [])) 1 9 i others
      ∙ ap (λ (ns : List MsgName). set (received_by_each history) i ns) own
    where
      event : Event
      event = Step p k (Recv s m)

      which : Bool → Option MsgName
      which own = if own then Some (message_name s m) else None

      others : (q : ℕ) → (q ≡ 1 + i → ⊥) → received_names q (history ++ event ∷ []) ≡ received_names q history
      others q differs = nothing_more q event (ap which (not_same p q (λ is. differs (omega (arith, is, at)))))

      own : received_names (1 + i) (history ++ event ∷ []) ≡ received_names p history ++ message_name s m ∷ []
      own =
          let is : 1 + i ≡ p = omega arith in
          ap (λ (q : ℕ). received_names q (history ++ event ∷ [])) is ∙ one_more p event
          ∙ ap (λ own. received_names p history ++ option_to_list (which own)) (eq-eqb p p refl)
