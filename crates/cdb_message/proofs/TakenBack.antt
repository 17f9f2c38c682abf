-- What a receive or a loss leaves, and one that is taken back: the mail as it was, and what may be passed over.
use Rattle.std.proofs.Common.{◌≡◌, ℕ, suc, zero, List, [], ◌∷◌, false, refl, ap, Bool, true, not, ◌&&◌, length, sym, ◌∙◌, inl, inr, arith}
use Rattle.std.specs.Prelude.{unwrap_or}
use Rattle.cdb_base.specs.Positions.{nth, set_nth}
use Rattle.cdb_base.specs.declared.name.MsgName.{MsgName}
use Rattle.cdb_base.specs.declared.name.CopyName.{CopyName}
use Rattle.cdb_message.specs.Mail.{MailState, received_by, is_received, is_lost, add_receive, add_loss, remove_receive, remove_loss, message_name, copy_name}
use Rattle.cdb_message.proofs.Sets.{name_cmp_total, name_cmp-IsAntisymmetric, copy_cmp_total, copy_cmp-IsAntisymmetric, remove-insert, is_one}
use Rattle.std.proofs.lemmas.Grind.{common_steps}
use Rattle.std.proofs.lemmas.Option.{gets}
use Rattle.std.proofs.lemmas.Bool.{or_right}
use Rattle.cdb_message.specs.Names.{NameSet}
use Rattle.cdb_message.specs.declared.passed.Passed.{Passed}
use Rattle.cdb_message.specs.Passed.{IsSound, HasNoneOpen, LeavesOut, RaisesWatermark}
use Rattle.std.specs.FinSet as finite

module _ {A : Type 0} (d : A) (change back : A → A) where
  -- what stands at a position is changed and changed back
  set_nth-back : (xs : List A) (p : ℕ) → back (change (unwrap_or (nth xs p) d)) ≡ unwrap_or (nth xs p) d
      → (let changed = set_nth xs p (change (unwrap_or (nth xs p) d)) in
      set_nth changed p (back (unwrap_or (nth changed p) d)) ≡ xs)
  set_nth-back [] zero h = refl
  set_nth-back [] (suc i) h = refl
  set_nth-back (x ∷ xs) zero h = refl
  set_nth-back (x ∷ xs) (suc zero) h = λ i. h i ∷ xs
  set_nth-back (x ∷ xs) (suc (suc i)) h = ap (λ ys. x ∷ ys) (set_nth-back xs (suc i) h)

pub remove_receive-add_receive : (mail : MailState) (p : ℕ) (name : MsgName) → is_received mail p name ≡ false
    → remove_receive (add_receive mail p name) p name ≡ mail
remove_receive-add_receive mail p name fresh =
    let same = remove-insert name_cmp_total name_cmp-IsAntisymmetric (received_by mail p) name fresh in
    λ i. record mail {
      received = set_nth-back finite.empty (λ s. finite.insert s name) (λ s. finite.remove s name) mail.received p same i;
    }

pub remove_loss-add_loss : (mail : MailState) (copy : CopyName) → is_lost mail copy ≡ false
    → remove_loss (add_loss mail copy) copy ≡ mail
remove_loss-add_loss mail copy fresh =
    λ i. record mail { lost = remove-insert copy_cmp_total copy_cmp-IsAntisymmetric mail.lost copy fresh i }

-- what process q received, where that of process p was set
still_received : (mail : MailState) (p q : ℕ) (names : NameSet) (other : MsgName)
    → (q ≡ p → finite.contains (received_by mail p) other ≡ true → finite.contains names other ≡ true)
    → is_received mail q other ≡ true
    → is_received (record mail { received = set_nth mail.received p names }) q other ≡ true
still_received mail p q names other first second = grind (arith, common_steps, gets)

length-received : (mail : MailState) (p : ℕ) (names : NameSet)
    → length (set_nth mail.received p names) ≡ length mail.received
length-received mail p names = grind (arith, common_steps, gets)

-- what is not open stays so where it stays received or lost
still_closed : (received lost received' lost' : Bool)
    → (received ≡ true → received' ≡ true) → (lost ≡ true → lost' ≡ true)
    → (not received && not lost) ≡ false → (not received' && not lost') ≡ false
still_closed received lost received' lost' first second third = grind (arith, common_steps, gets)

module _ (passed : Passed) (mail : MailState) (sound : IsSound passed mail) where
  pub sound-add_receive : (p : ℕ) (name : MsgName) → IsSound passed (add_receive mail p name)
  sound-add_receive p name = (
    sound.0 ∙ sym (length-received mail p _),
    sound.1,
    λ q t m from is.
        let added = finite.contains-insert name_cmp_total (received_by mail p) name (message_name t m) in
        still_closed _ _ _ _ (still_received mail p q _ (message_name t m) (λ _ has. added ∙ or_right _ _ has)) (λ h. h)
        (sound.2 q t m from is),
  )

  pub sound-add_loss : (copy : CopyName) → IsSound passed (add_loss mail copy)
  sound-add_loss copy = (
    sound.0,
    sound.1,
    λ q t m from is.
        let before = sound.2 q t m from is in
        let added = finite.contains-insert copy_cmp_total mail.lost copy (copy_name (message_name t m) q) in
        grind (arith, common_steps, gets),
  )

  -- one copy was left out
  module _ (left : Passed) (p : ℕ) (name : MsgName) (leaves : LeavesOut passed left p name.s name.m) where
    pub sound-remove_receive : IsSound left (remove_receive mail p name)
    sound-remove_receive = (
      sound.0 ∙ sym (length-received mail p _),
      sound.1,
      λ q t m from is.
          let leaves = leaves q t m from is in
          let removed = finite.contains-remove name_cmp_total (received_by mail p) name (message_name t m) in
          let one = is_one name_cmp-IsAntisymmetric (message_name t m) name in
          still_closed _ _ _ _
          (still_received mail p q _ (message_name t m) (λ same has. removed ∙ grind (arith, common_steps))) (λ h. h)
          (sound.2 q t m from leaves.0),
    )

    pub sound-remove_loss : IsSound left (remove_loss mail (copy_name name p))
    sound-remove_loss = (
      sound.0,
      sound.1,
      λ q t m from is.
          let leaves = leaves q t m from is in
          let before = sound.2 q t m from leaves.0 in
          let copy = copy_name (message_name t m) q in
          let removed = finite.contains-remove copy_cmp_total mail.lost (copy_name name p) copy in
          let one = is_one copy_cmp-IsAntisymmetric copy (copy_name name p) in
          grind (arith, common_steps, gets),
    )

  -- a watermark that moved on to a number up to which no copy is open
  pub sound-raised : (raised : Passed) (p s number : ℕ) → HasNoneOpen mail p s number
      → RaisesWatermark passed raised p s number → IsSound raised mail
  sound-raised raised p s number none raises = (
    sound.0,
    sound.1,
    λ q t m from is.
        elim (raises q t m is) [ inl h ↦ sound.2 q t m from h | inr h ↦ rw (h.0, h.1) (none m from h.2) ],
  )
