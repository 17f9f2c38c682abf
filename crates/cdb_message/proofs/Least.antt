-- Which messages were sent, and that the pending one that is found first is the least.
use Rattle.std.proofs.lemmas.Grind.{common_steps}
use Rattle.std.proofs.lemmas.Option.{gets}
use Rattle.std.proofs.Common.{◌≡◌, ℕ, ◌≤◌, true, ◌&&◌, length, nat_le, arith, ◌≢◌, zero, suc, ◌+◌, ◌<◌, ◌⊎◌, inl, inr, Bool, false, List, [], ◌∷◌, Option, None}
use Rattle.std.proofs.Common.{Some, find, filter, map, max, refl}
use Rattle.std.proofs.lemmas.Bool.Decides.{nat_tests}
use Rattle.cdb_base.specs.declared.name.MsgName.{MsgName}
use Rattle.cdb_message.specs.Mail.{MailState, message_name, sent_by, is_sent, sent_names, messages_of, is_open, is_above, next_pending, IsPending}
use Rattle.cdb_message.specs.Mail.{IsLeastPending, HasNonePending}
use Rattle.std.specs.Prelude.{MatchOption}
use Rattle.std.specs.List.{range_with_len, flat_map}
use Rattle.std.specs.Option.{option_or}
use Rattle.std.proofs.lemmas.Bool.{cases_Bool, cases_eq}
use Rattle.std.proofs.lemmas.List.Folds.{find-append}
use Rattle.cdb_message.specs.Passed.{HasNoneOpen}
use Rattle.cdb_message.specs.Search.{IsLeastOf, IsNext, IsLowestAbove}
use Rattle.cdb_message.specs.Names.{is_name_below}
use Rattle.cdb_message.proofs.RisingNumbers.{all_nine}

-- a message was sent where its number is from 1 to the number of sends
pub is_sent_within : (mail : MailState) (s m : ℕ)
    → is_sent mail (message_name s m) ≡ (nat_le 1 m && nat_le m (length (sent_by mail s)))
is_sent_within mail s m = grind (arith, common_steps, gets, nat_tests)

-- so by a process that is there
pub sent_where : (mail : MailState) (name : MsgName) → is_sent mail name ≡ true
    → (1 ≤ name.s) × (name.s ≤ length mail.sent) × (1 ≤ name.m) × (name.m ≤ length (sent_by mail name.s))
sent_where mail name sent = grind (arith, common_steps, gets)

-- ---- the least of some names

-- it is one
least-one : (A : MsgName → Type 0) (a b : Option MsgName) → IsLeastOf A a → IsLeastOf A b → a ≡ b
least-one A None None is_a is_b = refl
least-one A None (Some y) is_a is_b = absurd (is_a y is_b.0)
least-one A (Some x) None is_a is_b = absurd (is_b x is_a.0)
least-one A (Some x) (Some y) is_a is_b = same x y (is_a.1 y is_b.0) (is_b.1 x is_a.0)
  where
    same : (x y : MsgName) → is_name_below y x ≡ false → is_name_below x y ≡ false → Some x ≡ Some y
    same x y h k = grind (arith, common_steps, nat_tests)

least-same : (A B : MsgName → Type 0) → ((name : MsgName) → A name → B name) → ((name : MsgName) → B name → A name)
    → (o : Option MsgName) → IsLeastOf A o → IsLeastOf B o
least-same A B to from None none = λ name among. none name (from name among)
least-same A B to from (Some found) is = (to found is.0, λ other among. is.1 other (from other among))

-- of all names, where some of them stand before the others
least-joined : (A B C : MsgName → Type 0) (a b : Option MsgName) → IsLeastOf A a → IsLeastOf B b
    → ((name : MsgName) → A name ⊎ B name → C name) → ((name : MsgName) → C name → A name ⊎ B name)
    → ((x y : MsgName) → A x → B y → is_name_below y x ≡ false) → IsLeastOf C (option_or a b)
least-joined A B C (Some x) b is_a is_b all parts order = (
  all x (inl is_a.0),
  λ y among. elim (parts y among) [
    | inl in_a ↦ is_a.1 y in_a
    | inr in_b ↦ order x y is_a.0 in_b
  ],
)
least-joined A B C None b is_a is_b all parts order =
    least-same B C (λ name among. all name (inr among))
    (λ name among. elim (parts name among) [ inl in_a ↦ absurd (is_a name in_a) | inr in_b ↦ in_b ]) b is_b

-- ---- what a list of messages has first

module _ (mail : MailState) (test : MsgName → Bool) where
  abbrev Numbered : ℕ → ℕ → ℕ → MsgName → Type 0
  Numbered s j k name = (name.s ≡ s) × (j ≤ name.m) × (name.m < j + k) × (test name ≡ true)

  least-numbered : (s j k : ℕ) → IsLeastOf (Numbered s j k) (find test (map (message_name s) (range_with_len j k)))
  least-numbered s j zero = λ name among. absurd (omega (arith, among.1, among.2))
  least-numbered s j (suc k) =
      elim (cases_Bool (test (message_name s j))) [
        | inl passes ↦ rw passes ((refl, omega arith, omega arith, passes), λ other among. first other among.0 among.1)
        | inr fails ↦ rw fails (least-same (Numbered s (j + 1) k) (Numbered s j (suc k))
            (λ name among. (among.0, omega (arith, among.1), omega (arith, among.2), among.3))
            (λ name among. (among.0, behind name fails among.0 among.3 among.1, omega (arith, among.2), among.3)) _
            (least-numbered s (j + 1) k))
      ]
    where
      first : (other : MsgName) → other.s ≡ s → j ≤ other.m → is_name_below other (message_name s j) ≡ false
      first other same from = grind (arith, common_steps, nat_tests)

      behind : (name : MsgName) → test (message_name s j) ≡ false → name.s ≡ s → test name ≡ true → j ≤ name.m
          → j + 1 ≤ name.m
      behind name fails same passes from = grind (arith, common_steps)

  abbrev Sent : ℕ → MsgName → Type 0
  Sent s = Numbered s 1 (length (sent_by mail s))

  abbrev SentBy : ℕ → ℕ → MsgName → Type 0
  SentBy low n name =
      (low ≤ name.s) × (name.s < low + n)
      × (1 ≤ name.m) × (name.m ≤ length (sent_by mail name.s)) × (test name ≡ true)

  least-sent : (low n : ℕ) → IsLeastOf (SentBy low n) (find test (flat_map (messages_of mail) (range_with_len low n)))
  least-sent low zero = λ name among. absurd (omega (arith, among.0, among.1))
  least-sent low (suc n) =
      rw (find-append test (messages_of mail low) (flat_map (messages_of mail) (range_with_len (low + 1) n)))
      (least-joined (Sent low) (SentBy (low + 1) n) (SentBy low (suc n)) _ _
      (least-numbered low 1 _) (least-sent (low + 1) n) all parts order)
    where
      all : (name : MsgName) → Sent low name ⊎ SentBy (low + 1) n name → SentBy low (suc n) name
      all name among = grind (arith, common_steps)

      parts : (name : MsgName) → SentBy low (suc n) name → Sent low name ⊎ SentBy (low + 1) n name
      parts name among = grind (arith, common_steps)

      order : (x y : MsgName) → Sent low x → SentBy (low + 1) n y → is_name_below y x ≡ false
      order x y in_a in_b = grind (arith, common_steps, nat_tests)

find-filter : (p q : MsgName → Bool) (names : List MsgName)
    → find q (filter p names) ≡ find (λ name. p name && q name) names
find-filter p q [] = refl
find-filter p q (name ∷ names) = let rest = find-filter p q names in grind (arith, common_steps)

-- ---- pending messages

module _ (mail : MailState) (p : ℕ) (after : Option MsgName) where
  -- the look may begin behind a number up to which none is open
  pub least-behind : (s low watermark start : ℕ) (o : Option MsgName)
      → IsLowestAbove after s low → HasNoneOpen mail p s watermark → start ≡ max low (watermark + 1)
      → IsLeastOf (λ name. (name.s ≡ s) × (start ≤ name.m) × IsPending mail p name) o
      → IsLeastOf (λ name. (name.s ≡ s) × IsNext mail p after name) o
  least-behind s low watermark start o above closed begins =
      least-same _ _
      (λ name among. (among.0, (among.2, to name among.0 among.1)))
      (λ name among. (among.0, from name among.0 among.1.0 among.1.1, among.1.0)) o
    where
      to : (name : MsgName) → name.s ≡ s → start ≤ name.m → is_above after name ≡ true
      to name same behind = let at = above name.m in grind (arith, common_steps, nat_tests)

      from : (name : MsgName) → name.s ≡ s → IsPending mail p name → is_above after name ≡ true → start ≤ name.m
      from name same pending is =
          let at = above name.m in
          let one = sent_where mail name pending.0 in
          let none = closed name.m in
          grind (arith, common_steps, nat_tests)

  -- none is left of the senders below s
  abbrev pub AreFrom : ℕ → Type 0
  AreFrom s = (name : MsgName) → IsNext mail p after name → s ≤ name.s

  -- so the least of that sender is the least of all
  pub least-sender : (sender s : ℕ) (name : MsgName) → sender ≡ s
      → IsLeastOf (λ n. (n.s ≡ sender) × IsNext mail p after n) (Some name) → AreFrom s
      → IsLeastOf (IsNext mail p after) (Some name)
  least-sender sender s name same least left = (
    least.0.1,
    λ other next. elim (cases_eq other.s sender) [
      | inl here ↦ least.1 other (here, next)
      | inr more ↦ later other more (left other next)
    ],
  )
    where
      later : (other : MsgName) → other.s ≢ sender → s ≤ other.s → is_name_below other name ≡ false
      later other more from = let here = least.0.0 in grind (arith, nat_tests)

  pub none-sender : (s : ℕ) → length mail.sent < s → AreFrom s → IsLeastOf (IsNext mail p after) None
  none-sender s end left name next = omega (arith, sent_where mail name next.0.0, left name next, end)

  abbrev is_next : MsgName → Bool
  is_next name = is_open mail p name && is_above after name

  pub next-found : length mail.sent ≤ 9 → (o : Option MsgName) → IsLeastOf (IsNext mail p after) o
      → o ≡ next_pending mail p after
  next-found few o least =
      least-one (IsNext mail p after) o _ least
      (rw (find-filter (is_open mail p) (is_above after) (sent_names mail), all_nine)
      (least-same (SentBy mail is_next 1 9) (IsNext mail p after) to from _ (least-sent mail is_next 1 9)))
    where
      to : (name : MsgName) → SentBy mail is_next 1 9 name → IsNext mail p after name
      to name among = let within = is_sent_within mail name.s name.m in grind (arith, common_steps, nat_tests)

      from : (name : MsgName) → IsNext mail p after name → SentBy mail is_next 1 9 name
      from name among = let is = sent_where mail name among.0.0 in grind (arith, common_steps)

  pub least_pending : (o : Option MsgName) → IsLeastOf (IsNext mail p after) o
      → MatchOption o (HasNonePending mail p after) (IsLeastPending mail p after)
  least_pending None none = λ name pending. grind (arith, common_steps)
  least_pending (Some name) least = record {
    pending = least.0.0;
    above = least.0.1;
    least = λ other pending above. least.1 other (pending, above);
  }
