-- A line in which nothing is amiss is one that a session takes.
use Rattle.std.proofs.lemmas.Grind.{common_steps}
use Rattle.std.proofs.lemmas.Option.{gets}
use Rattle.std.proofs.Common.{◌≡◌, inl, inr, ℕ, true, false, ◌||◌, List, [], ◌∷◌, refl, sym, ap, subst, ◌∙◌, arith, rules}
use Rattle.std.specs.List.{AllByRecursion, list_any}
use Rattle.std.specs.Prelude.{codes, map, Option, None, Some, Result, Ok, Err, is_some, is_ok, ◌⊎◌}
use Rattle.std.specs.Str.{bytes_eq}
use Rattle.std.proofs.Math.Bool.{or-false}
use Rattle.std.proofs.lemmas.Bool.{and_parts, cases_Bool}
use Rattle.std.proofs.lemmas.Slice.Eq.{bytes_eq-Decides}
use Rattle.cdb_commands.specs.declared.command.Command.{Command}
use Rattle.cdb_text.proofs.Whole.{one_command}
use Rattle.cdb_text.specs.Grammar.{IsLineOf, words_of}
use Rattle.cdb_text.specs.Lines.{after_process, after_step, after_break, after_show, after_verb, whole_line}
use Rattle.cdb_text.specs.Numbers.{number_of, is_number as is_numeral}
use Rattle.cdb_text.specs.Readers.{read_by, register_named}
use Rattle.cdb_session.specs.declared.due.Due.{Due}
use Rattle.cdb_session.specs.declared.topic.Topic.{Topic}
use Rattle.cdb_session.specs.Due.{amiss_in, with_process, behind, behind_act, behind_first, dues_of, first_amiss, is_number, may_stand, nothing, registers}
use Rattle.cdb_session.specs.Due.{seats}
use Rattle.cdb_session.specs.RequestWords.{step_in, any_step_in, drawing_in, own_in}
use Rattle.cdb_session.specs.Laws.{SoundLinesAreTaken}
use Rattle.cdb_session.specs.Requests.{IsOwn}
use Rattle.cdb_session.specs.Topics.{topic_of, topic_word, topics}
use Rattle.cdb_session.specs.Typed.{acts, first_words}
use Rattle.cdb_session.proofs.OneRequest.{own_says, topic_again}
use Rattle.cdb_session.specs.declared.due.Due.TheVariants as due
use Rattle.cdb_session.specs.declared.topic.Topic.TheVariants as topic

-- ---- nothing is amiss from some place on

abbrev IsSound : List Due → List (List ℕ) → Type 0
IsSound dues words = first_amiss true dues words ≡ nothing

next : (its : Due) (dues : List Due) (word : List ℕ) (words : List (List ℕ))
    → IsSound (its ∷ dues) (word ∷ words) → (may_stand true its word ≡ true) × IsSound dues words
next its dues word words is =
    elim (cases_Bool (may_stand true its word)) [
      | inl h ↦ (h, rw h at is)
      | inr h ↦ absurd (let wrong = rw h at is in cc)
    ]

over : (words : List (List ℕ)) → IsSound [] words → words ≡ []
over words is = grind (arith, common_steps, gets)

-- ---- lines that a session takes, by their words

abbrev IsTaken : List (List ℕ) → Type 0
IsTaken words = (line : List ℕ) → words_of line ≡ words → IsOwn line ⊎ ((command : Command) × IsLineOf command line)

-- they are read as a command
abbrev IsRead : List (List ℕ) → Type 0
IsRead words = is_ok (read_by whole_line words) ≡ true

ok_of : {A E : Type 0} (r : Result A E) → is_ok r ≡ true → (a : A) × (r ≡ Ok a)
ok_of (Ok a) is = (a, refl)
ok_of (Err e) is = absurd cc

read_taken : (words : List (List ℕ)) → IsRead words → IsTaken words
read_taken words is line are =
    let command = ok_of (read_by whole_line words) is in inr (command.0, rw are ((one_command words command.0).0 command.1))

-- or as one that a session takes beside commands
some_of : {A : Type 0} (o : Option A) → is_some o ≡ true → (a : A) × (o ≡ Some a)
some_of (Some a) is = (a, refl)
some_of None is = absurd cc

abbrev IsReadOwn : List (List ℕ) → Type 0
IsReadOwn words = is_some (own_in words) ≡ true

own_taken : (words : List (List ℕ)) → IsReadOwn words → IsTaken words
own_taken words is line are = let (request, reads) = some_of (own_in words) is in inl (request, own_says line request (rw are reads))

-- ---- line by line

-- one of some words is that of one of these values
one_of : {X : Type 0} (P : X → Type 0) (f : X → List ℕ) (xs : List X) → AllByRecursion P xs
    → (word : List ℕ) → list_any (bytes_eq word) (map f xs) ≡ true → (x : X) × P x × (word ≡ f x)
one_of P f [] all word is = absurd cc
one_of P f (x ∷ xs) all word is =
    elim (cases_Bool (bytes_eq word (f x))) [
      | inl h ↦ (x, all.0, (bytes_eq-Decides word (f x)).0 h)
      | inr h ↦ one_of P f xs all.1 word (rw h at is)
    ]

number_read : (word : List ℕ) → (is_number word || false) ≡ true → (n : ℕ) × (number_of word ≡ Some n)
number_read word is = some_of (number_of word) (rw or-false at is)

-- behind `step P`
abbrev IsActRead : ℕ → List ℕ → Type 0
IsActRead p act = (words : List (List ℕ)) → IsSound (behind_act act words) words → is_ok (read_by (after_process p) (act ∷ words)) ≡ true

act_read : (p : ℕ) (act : List ℕ) → list_any (bytes_eq act) acts ≡ true → IsActRead p act
act_read p act is =
    let all : AllByRecursion (IsActRead p) acts = (
      λ words sound. grind (arith, common_steps, gets),
      (
        λ words sound. grind (arith, common_steps, gets),
        (
          λ words sound. grind (arith, common_steps, gets),
          (λ words sound. grind (arith, common_steps, gets), (λ words sound. grind (arith, common_steps, gets), tt)),
        ),
      ),
    ) in
    let its = one_of (IsActRead p) (λ word. word) acts all act is in subst (IsActRead p) (sym its.2) its.1

step_read : (words : List (List ℕ)) → IsSound (behind topic.Step words) words → IsRead (codes "step" ∷ words)
unfolding whole_line after_step
step_read [] is = absurd cc
step_read (word ∷ []) is = absurd (let here = next due.Process (due.Act ∷ []) word [] is in let ends = here.1 in cc)
step_read (word ∷ act ∷ words) is =
    let here = next due.Process (due.Act ∷ behind_act act words) word (act ∷ words) is in
    let there = next due.Act (behind_act act words) act words here.1 in
    let p = number_read word here.0 in
    rw p.1 (act_read p.0 act (and_parts _ _ there.0).0 words there.1)

write_read : (words : List (List ℕ)) → IsSound (due.Register ∷ []) words → IsRead (codes "break" ∷ codes "write" ∷ words)
unfolding whole_line after_break register_named
write_read [] is = absurd cc
write_read (word ∷ words) is =
    let here = next due.Register [] word words is in
    let name = one_of (λ (name : List ℕ). IsRead (codes "break" ∷ codes "write" ∷ name ∷ [])) (λ name. name) registers (search rules) word
    (and_parts _ _ here.0).0 in
    rw (over words here.1, name.2) name.1

stop_read : (stop : List ℕ) (words : List (List ℕ)) → bytes_eq stop (codes "write") ≡ false
    → IsSound (behind topic.Break (stop ∷ words)) (stop ∷ words) → IsRead (codes "break" ∷ stop ∷ words)
unfolding whole_line after_break
stop_read stop words other is = grind (arith, common_steps, gets)

break_read : (words : List (List ℕ)) → IsSound (behind topic.Break words) words → IsRead (codes "break" ∷ words)
break_read [] is = absurd cc
break_read (stop ∷ words) is =
    elim (cases_Bool (bytes_eq stop (codes "write"))) [
      | inl h ↦ let same = (bytes_eq-Decides stop (codes "write")).0 h in rw same (write_read words (rw same at is))
      | inr h ↦ stop_read stop words h is
    ]

-- `auto P`, or `auto P N`
auto_read : (words : List (List ℕ)) → IsSound (with_process due.Count words) words → IsRead (codes "auto" ∷ words) ⊎ IsReadOwn (codes "auto" ∷ words)
unfolding whole_line own_in step_in topic_of
auto_read [] is = absurd cc
auto_read (p ∷ []) is = inl (grind (arith, common_steps, gets))
auto_read (p ∷ n ∷ words) is = inr (grind (arith, common_steps, gets))

auto_taken : (words : List (List ℕ)) → IsSound (with_process due.Count words) words → IsTaken (codes "auto" ∷ words)
auto_taken words is =
    elim (auto_read words is) [
      | inl once ↦ read_taken _ once
      | inr often ↦ own_taken _ often
    ]

-- `seat S`
seat_read : (words : List (List ℕ)) → IsSound (due.Seat ∷ []) words → IsReadOwn (codes "seat" ∷ words)
unfolding own_in topic_of number_of is_numeral
seat_read [] is = absurd cc
seat_read (word ∷ words) is =
    let here = next due.Seat [] word words is in
    let name = one_of (λ (name : List ℕ). IsReadOwn (codes "seat" ∷ name ∷ [])) (λ name. name) seats (search rules) word (and_parts _ _ here.0).0 in
    rw (over words here.1, name.2) name.1

-- a word that may begin a line
a_topic : (word : List ℕ) → list_any (bytes_eq word) first_words ≡ true → (t : Topic) × Unit {0} × (word ≡ topic_word t)
a_topic word is = one_of (λ t. Unit {0}) topic_word topics (search rules) word is

-- `help`, or `help WORD`
help_read : (words : List (List ℕ)) → IsSound (behind topic.Help words) words → IsReadOwn (codes "help" ∷ words)
unfolding own_in topic_of
help_read [] is = refl
help_read (word ∷ words) is =
    let here = next due.Command [] word words is in
    let t = a_topic word (and_parts _ _ here.0).0 in
    rw (over words here.1, t.2, topic_again t.0) refl

by_topic : (first : Topic) (words : List (List ℕ)) → IsSound (behind first words) words → IsTaken (topic_word first ∷ words)
unfolding whole_line after_verb after_show own_in drawing_in any_step_in step_in topic_of
by_topic topic.Step words is = read_taken _ (step_read words is)
by_topic topic.Auto words is = auto_taken words is
by_topic topic.Lose words is = read_taken (codes "lose" ∷ words) (grind (arith, common_steps, gets))
by_topic topic.Undo words is = read_taken (codes "undo" ∷ words) (grind (arith, common_steps, gets))
by_topic topic.Rollback words is = read_taken (codes "rollback" ∷ words) (grind (arith, common_steps, gets))
by_topic topic.Why words is = read_taken (codes "why" ∷ words) (grind (arith, common_steps, gets))
by_topic topic.Break words is = read_taken _ (break_read words is)
by_topic topic.Unbreak words is = read_taken (codes "unbreak" ∷ words) (grind (arith, common_steps, gets))
by_topic topic.Show words is = read_taken (codes "show" ∷ words) (grind (arith, common_steps, gets))
by_topic topic.Explain words is = own_taken (codes "explain" ∷ words) (grind (arith, common_steps, gets))
by_topic topic.Trail words is = own_taken (codes "trail" ∷ words) (grind (arith, common_steps, gets))
by_topic topic.Draw words is = own_taken (codes "draw" ∷ words) (grind (arith, common_steps, gets))
by_topic topic.Watch words is = rw (over words is) (own_taken (codes "watch" ∷ []) refl)
by_topic topic.Unwatch words is = rw (over words is) (own_taken (codes "unwatch" ∷ []) refl)
by_topic topic.Help words is = own_taken _ (help_read words is)
by_topic topic.Quit words is = rw (over words is) (own_taken (codes "quit" ∷ []) refl)
by_topic topic.Seat words is = own_taken _ (seat_read words is)
-- each other word is a whole line
by_topic topic.Redo words is = rw (over words is) (read_taken (codes "redo" ∷ []) refl)
by_topic topic.Forget words is = rw (over words is) (read_taken (codes "forget" ∷ []) refl)
by_topic topic.Resume words is = rw (over words is) (read_taken (codes "resume" ∷ []) refl)
by_topic topic.Decisions words is = rw (over words is) (read_taken (codes "decisions" ∷ []) refl)

all_taken : (words : List (List ℕ)) → IsSound (dues_of words) words → IsTaken words
all_taken [] is = absurd cc
all_taken (word ∷ words) is =
    let here = next due.Command (behind_first (topic_of word) words) word words is in
    let t = a_topic word (and_parts _ _ here.0).0 in
    let known : topic_of word ≡ Some t.0 = ap topic_of t.2 ∙ topic_again t.0 in
    rw t.2 (by_topic t.0 words (subst (λ (found : Option Topic). IsSound (behind_first found words) words) known here.1))

pub sound_lines_are_taken : SoundLinesAreTaken
unfolding amiss_in
sound_lines_are_taken line is = all_taken (words_of line) is line refl
