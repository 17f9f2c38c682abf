-- What a flag that is set or cleared does to the mail.
use Rattle.std.proofs.lemmas.Grind.{common_steps}
use Rattle.std.proofs.lemmas.Option.{gets}
use Rattle.std.proofs.Common.{◌≡◌, ℕ, ◌+◌, ◌≤◌, Bool, true, false, List, length, slice_set, get_or, Vec, Global, refl, ap, sym, ◌∙◌, arith}
use Rattle.std.proofs.lemmas.List.{map-set}
use Rattle.std.proofs.Math.Seq.{map-set_same}
use Rattle.std.proofs.Math.ListN.{get_or-map as map-get_or}
use Rattle.std.specs.Prelude.{unwrap_or}
use Rattle.cdb_base.specs.Positions.{nth, set_nth}
use Rattle.cdb_base.specs.declared.name.MsgName.{MsgName}
use Rattle.cdb_base.specs.declared.name.CopyName.{CopyName}
use Rattle.cdb_message.specs.declared.mail.Mail.TheInside.{Inside}
use Rattle.cdb_message.specs.Flags.{flag_in, SetsFlag, names_in, name_at, copy_at, mail_in}
use Rattle.cdb_message.specs.Mail.{MailState, received_by, is_received, is_lost, add_receive, add_loss, remove_receive, remove_loss}
use Rattle.cdb_message.proofs.Sets.{names, copies, contains_key, key_changed, same_keys}
use Rattle.std.specs.FinSet as set

-- the item of process p of a list with one for each
stands_at : {A : Type 0} (xs : List A) (default : A) (i : ℕ) {p : ℕ} {x : A}
    → i + 1 ≡ p → p ≤ length xs → x ≡ get_or xs i x → unwrap_or (nth xs p) default ≡ x
stands_at xs default i position within read = grind (arith, common_steps, gets)

module _ (x : Inside) where
  abbrev mail : MailState
  mail = mail_in x.sent.items x.received.items x.lost.items

  -- ---- what process p received

  module _ (i : ℕ) {p : ℕ} {flags : Vec Bool Global}
      (position : i + 1 ≡ p) (within : p ≤ length mail.received) (read : flags ≡ get_or x.received.items i flags) where
    received_is : received_by mail p ≡ names_in flags.items
    received_is =
        stands_at mail.received set.empty i position within
        (ap (λ v. names_in v.items) read ∙ sym (map-get_or (λ v. names_in v.items) x.received.items i flags))

    set_received : (new : Vec Bool Global)
        → mail_in x.sent.items (slice_set x.received.items i new) x.lost.items
        ≡ record mail { received = set_nth mail.received p (names_in new.items) }
    set_received new = grind (arith, common_steps, gets, map-set)

    -- flags that are as they were leave the mail as it was
    pub received_kept : (new : Vec Bool Global) → ((n : ℕ) → flag_in new.items n ≡ flag_in flags.items n)
        → mail_in x.sent.items (slice_set x.received.items i new) x.lost.items ≡ mail
    received_kept new same =
        let is = same_keys names flags.items new.items same ∙ ap (λ v. names_in v.items) read in
        λ j. record mail { received = map-set_same (λ v. names_in v.items) x.received.items i new flags is j }

    module _ (n : ℕ) {name : MsgName} (named : name_at n ≡ name) where
      pub is_received-flag : flag_in flags.items n ≡ is_received mail p name
      is_received-flag = rw received_is (contains_key names n named flags.items)

      module _ (new : Vec Bool Global) where
        pub add_receive-flag : SetsFlag flags.items new.items n true
            → mail_in x.sent.items (slice_set x.received.items i new) x.lost.items ≡ add_receive mail p name
        add_receive-flag sets =
            set_received new ∙ rw (received_is, key_changed names n named flags.items new.items true sets) refl

        pub remove_receive-flag : SetsFlag flags.items new.items n false
            → mail_in x.sent.items (slice_set x.received.items i new) x.lost.items ≡ remove_receive mail p name
        remove_receive-flag sets =
            set_received new ∙ rw (received_is, key_changed names n named flags.items new.items false sets) refl

  -- ---- the copies that are lost

  pub lost_kept : (new : List Bool) → ((n : ℕ) → flag_in new n ≡ flag_in x.lost.items n) → mail_in x.sent.items x.received.items new ≡ mail
  lost_kept new same = λ j. record mail { lost = same_keys copies x.lost.items new same j }

  module _ (n : ℕ) {copy : CopyName} (named : copy_at n ≡ copy) where
    pub is_lost-flag : flag_in x.lost.items n ≡ is_lost mail copy
    is_lost-flag = contains_key copies n named x.lost.items

    module _ (new : List Bool) where
      pub add_loss-flag : SetsFlag x.lost.items new n true → mail_in x.sent.items x.received.items new ≡ add_loss mail copy
      add_loss-flag sets = λ j. record mail { lost = key_changed copies n named x.lost.items new true sets j }

      pub remove_loss-flag : SetsFlag x.lost.items new n false → mail_in x.sent.items x.received.items new ≡ remove_loss mail copy
      remove_loss-flag sets = λ j. record mail { lost = key_changed copies n named x.lost.items new false sets j }
