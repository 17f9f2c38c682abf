-- The names of the messages that were sent stand in order.
use Rattle.std.proofs.Common.{◌≡◌, ℕ, zero, suc, ◌+◌, ◌<◌, ◌≤◌, true, false, List, [], ◌∷◌, ◌++◌, length, map}
use Rattle.std.proofs.Common.{refl, arith}
use Rattle.std.specs.List.{AllByRecursion, range_with_len, flat_map}
use Rattle.std.proofs.lemmas.Bool.Decides.{nat_tests}
use Rattle.cdb_base.specs.Processes.{all_processes}
use Rattle.cdb_base.specs.declared.name.MsgName.{MsgName}
use Rattle.cdb_message.specs.Mail.{MailState, message_name, sent_by, sent_names, messages_of}
use Rattle.cdb_message.specs.Names.{is_name_below}

-- ---- the order of names

pub below-not_back : (a b : MsgName) → is_name_below a b ≡ true → is_name_below b a ≡ false
below-not_back a b h = grind (arith, nat_tests)

pub not_below_itself : (a : MsgName) → is_name_below a a ≡ false
not_below_itself a = grind (arith, nat_tests)

-- ---- what holds of each element of a list

module _ {A : Type 0} (P : A → Type 0) where
  pub all-mapped : (Q : A → Type 0) (xs : List A) → ((x : A) → P x → Q x) → AllByRecursion P xs → AllByRecursion Q xs
  all-mapped Q [] step all = tt
  all-mapped Q (x ∷ xs) step all = (step x all.0, all-mapped Q xs step all.1)

  all-joined : (xs ys : List A) → AllByRecursion P xs → AllByRecursion P ys → AllByRecursion P (xs ++ ys)
  all-joined [] ys left right = right
  all-joined (x ∷ xs) ys left right = (left.0, all-joined xs ys left.1 right)

  -- of what a function gives at numbers in a row
  all-numbers : (f : ℕ → A) (j k : ℕ) → ((m : ℕ) → j ≤ m → P (f m)) → AllByRecursion P (map f (range_with_len j k))
  all-numbers f j zero each = tt
  all-numbers f j (suc k) each = (each j (omega arith), all-numbers f (j + 1) k (λ m from. each m (omega arith)))

  all-parts : (f : ℕ → List A) (j k : ℕ) → ((m : ℕ) → j ≤ m → AllByRecursion P (f m))
      → AllByRecursion P (flat_map f (range_with_len j k))
  all-parts f j zero each = tt
  all-parts f j (suc k) each =
      all-joined (f j) _ (each j (omega arith)) (all-parts f (j + 1) k (λ m from. each m (omega arith)))

-- ---- lists in that order

abbrev pub AreAbove : MsgName → List MsgName → Type 0
AreAbove name = AllByRecursion (λ other. is_name_below name other ≡ true)

abbrev pub Rise : List MsgName → Type 0
Rise [] = Unit {0}
Rise (name ∷ names) = AreAbove name names × Rise names

rise-joined : (names more : List MsgName) → Rise names → Rise more → AllByRecursion (λ name. AreAbove name more) names
    → Rise (names ++ more)
rise-joined [] more rise rise_more between = rise_more
rise-joined (name ∷ names) more rise rise_more between =
    (all-joined _ names more rise.0 between.0, rise-joined names more rise.1 rise_more between.1)

-- ---- the names of all messages rise

same_sender : (s m j : ℕ) → m < j → is_name_below (message_name s m) (message_name s j) ≡ true
same_sender s m j h = grind (arith, nat_tests)

later_sender : (s t m j : ℕ) → s < t → is_name_below (message_name s m) (message_name t j) ≡ true
later_sender s t m j h = grind (arith, nat_tests)

numbers-rise : (s j k : ℕ) → Rise (map (message_name s) (range_with_len j k))
numbers-rise s j zero = tt
numbers-rise s j (suc k) =
    (all-numbers _ (message_name s) (j + 1) k (λ m from. same_sender s j m (omega arith)), numbers-rise s (j + 1) k)

pub all_nine : all_processes ≡ range_with_len 1 9
unfolding all_processes
all_nine = refl

module _ (mail : MailState) where
  senders-rise : (low n : ℕ) → Rise (flat_map (messages_of mail) (range_with_len low n))
  senders-rise low zero = tt
  senders-rise low (suc n) =
      rise-joined (messages_of mail low) _ (numbers-rise low 1 (length (sent_by mail low))) (senders-rise (low + 1) n)
      (all-numbers _ (message_name low) 1 _ (λ m _. all-parts _ (messages_of mail) (low + 1) n (λ s from.
      all-numbers _ (message_name s) 1 _ (λ j _. later_sender low s m j (omega (arith, from))))))

  pub names-rise : Rise (sent_names mail)
  names-rise = rw all_nine (senders-rise 1 9)
