-- A line asks for one thing.
use Rattle.std.proofs.Common.{◌≡◌, ◌≢◌, inl, inr, ℕ, ◌+◌, ◌<◌, ◌≤◌, Bool, true, false, List, [], ◌∷◌, length, drop, map, get_or, nat_eq, decimal, refl, sym}
use Rattle.std.proofs.Common.{ap, subst, ◌∙◌, arith}
use Rattle.std.proofs.lemmas.Grind.{common_steps}
use Rattle.std.proofs.lemmas.Option.{gets}
use Rattle.std.specs.Prelude.{codes, find, Option, None, Some, Bool, map, option_map, Result, Ok, Err}
use Rattle.std.specs.List.{flat_map, join_with_byte}
use Rattle.std.proofs.lemmas.List.Splits.{join_with_byte-slice_split}
use Rattle.std.proofs.lemmas.Bool.Decides.{nat_tests}
use Rattle.std.proofs.lemmas.Bool.{cases_Bool}
use Rattle.std.proofs.lemmas.Slice.Eq.{bytes_eq-Decides}
use Rattle.std.specs.Str.{bytes_eq}
use Rattle.cdb_session.specs.Dialogues.{line_about}
use Rattle.cdb_session.specs.Requests.{help_line, IsOwn, MeansOwn, seat_line, most_seats, AsksFor}
use Rattle.cdb_session.specs.Topics.{topic_of, topic_word, topics}
use Rattle.cdb_session.specs.declared.topic.Topic.{Topic}
use Rattle.std.proofs.lemmas.Fmt.{decimal_digit}
use Rattle.cdb_setup.specs.Parts.{IsWithin}
use Rattle.cdb_session.specs.Inquiries.{AreAnyStepWords, AreInquiryWords, AreStepWords, is_file_name, numbers_of}
use Rattle.cdb_session.specs.declared.inquiry.Inquiry.{Inquiry}
use Rattle.std.specs.Option.{option_and_then}
use Rattle.cdb_base.specs.declared.question.StepAsked.{StepAsked}
use Rattle.cdb_text.specs.Commands.{number}
use Rattle.cdb_text.specs.Grammar.{IsInRange, part_text, words_of, IsLineOf}
use Rattle.cdb_text.specs.Numbers.{number_of}
use Rattle.cdb_text.proofs.Cut.{some_word}
use Rattle.cdb_text.proofs.Numbers.{number_again, number_says}
use Rattle.cdb_session.specs.RequestWords.{step_with, step_in, any_step_in, drawing_in, seat_from, seat_named, alone, help_in, repeat_from, own_behind, own_in}
use Rattle.cdb_session.specs.declared.inquiry.Inquiry.TheVariants.{Explain, Trail, Draw}
use Rattle.cdb_commands.specs.declared.command.Command.{Command}
use Rattle.cdb_commands.specs.declared.command.Command.TheVariants.{Auto}
use Rattle.cdb_setup.specs.Format.{longest}
use Rattle.cdb_text.specs.Faults.{IsFaultOf}
use Rattle.cdb_text.specs.declared.fault.LineFault.{LineFault}
use Rattle.cdb_session.specs.declared.request.Request.{Request}
use Rattle.cdb_session.specs.declared.request.Request.TheVariants.{Call, Ask, Watch, Seat, Help, Quit, Fault, TooLong}
use Rattle.cdb_session.specs.declared.topic.Topic.TheVariants as topic

-- ---- words that are topics

pub topic_again : (t : Topic) → topic_of (topic_word t) ≡ Some t
unfolding topic_of
topic_again t = grind (arith, common_steps, gets)

found_is : {A : Type 0} (p : A → Bool) (xs : List A) (x : A) → find p xs ≡ Some x → p x ≡ true
found_is p [] x e = absurd cc
found_is p (y ∷ xs) x e =
    elim (cases_Bool (p y)) [
      | inl h ↦ let same : y ≡ x = (let there : Some y ≡ Some x = rw h at e in cc) in subst (λ z. p z ≡ true) same h
      | inr h ↦ found_is p xs x (rw h at e)
    ]

-- a word that is read as a topic is its word
pub topic_says : (word : List ℕ) (t : Topic) → topic_of word ≡ Some t → word ≡ topic_word t
unfolding topic_of
topic_says word t e = (bytes_eq-Decides word (topic_word t)).0 (found_is (λ its. bytes_eq word (topic_word its)) topics t e)

-- ---- the lines about a word

abbrev pub about : Topic → List (List ℕ) → List ℕ
about t lines = flat_map (line_about t) lines

-- ---- what is read in the words

-- a line has a first word
pub first_of : (line : List ℕ) → words_of line ≡ get_or (words_of line) 0 [] ∷ drop 1 (words_of line)
first_of line = first_of_some (words_of line) (some_word line)
  where
    first_of_some : (words : List (List ℕ)) → words ≢ [] → words ≡ get_or words 0 [] ∷ drop 1 words
    first_of_some [] some = absurd (some refl)
    first_of_some (word ∷ words) some = refl

number_reads : (n : ℕ) → IsInRange (number n) → number_of (decimal n) ≡ Some n
number_reads n range = number_again n range.0 range.1

step_reads : (step : StepAsked) (words : List (List ℕ)) → AreStepWords step words → step_in words ≡ Some step
unfolding step_in
step_reads step words is = grind (arith, common_steps, gets, number_reads)

-- an option that was mapped has a value only where the option has one
pub from_map : {A B : Type 0} (f : A → B) (o : Option A) (y : B) → option_map f o ≡ Some y → (x : A) × (o ≡ Some x) × (f x ≡ y)
from_map f None y e = cc
from_map f (Some x) y e = (x, refl, cc)

from_then : {A B : Type 0} (f : A → Option B) (o : Option A) (y : B) → option_and_then f o ≡ Some y → (x : A) × (o ≡ Some x) × (f x ≡ Some y)
from_then f None y e = cc
from_then f (Some x) y e = (x, refl, e)

step_says : (words : List (List ℕ)) (step : StepAsked) → step_in words ≡ Some step → AreStepWords step words
unfolding step_in
step_says [] step e = cc
step_says (first ∷ []) step e =
    let p = from_map (λ p. step_with p None) (number_of first) step e in
    let (is, low, high) = number_says first p.0 p.1 in
    rw (← p.2) (record { are = ap (λ word. word ∷ []) is; in_range = ((low, high), tt) })
step_says (first ∷ second ∷ []) step e =
    let p = from_then (λ p. option_map (λ k. step_with p (Some k)) (number_of second)) (number_of first) step e in
    let k = from_map (λ k. step_with p.0 (Some k)) (number_of second) step p.2 in
    let (is, low, high) = number_says first p.0 p.1 in
    let (is_too, low_too, high_too) = number_says second k.0 k.1 in
    rw (← k.2) (record { are = (λ i. is i ∷ is_too i ∷ []); in_range = ((low, high), ((low_too, high_too), tt)) })
step_says (first ∷ second ∷ third ∷ words) step e = cc

-- ---- a file, and maybe a step

none_named : (p : ℕ) (k : Option ℕ) → [] ≡ map part_text (numbers_of p k) → ⊥
none_named p k e = grind (arith, common_steps, gets)

any_reads : (step : Option StepAsked) (words : List (List ℕ)) → AreAnyStepWords step words → any_step_in words ≡ Some step
unfolding any_step_in
any_reads step words is = grind (arith, common_steps, gets, step_reads, none_named)

any_says : (words : List (List ℕ)) (step : Option StepAsked) → any_step_in words ≡ Some step → AreAnyStepWords step words
unfolding any_step_in
any_says words step e = grind (arith, common_steps, gets, step_says)

-- ---- what the line asks

inquiry_reads : (inquiry : Inquiry) (words : List (List ℕ)) → AreInquiryWords inquiry words → own_in words ≡ Some (Ask inquiry)
unfolding own_in drawing_in topic_of
inquiry_reads inquiry words is = grind (arith, common_steps, gets, step_reads, any_reads)

drawing_says : (words : List (List ℕ)) (inquiry : Inquiry) → drawing_in words ≡ Some inquiry → AreInquiryWords inquiry (codes "draw" ∷ words)
unfolding drawing_in
drawing_says [] inquiry e = cc
drawing_says (name ∷ others) inquiry e =
    elim (cases_Bool (is_file_name name)) [
      | inl is ↦
          let its = from_map (Draw name) (any_step_in others) inquiry (rw is at e) in
          rw (← its.2) (refl, refl, is, any_says others its.0 its.1)
      | inr other ↦ let never = rw other at e in cc
    ]

-- ---- a line of a session's own is read as what it asks for

seat_reads : (seat : ℕ) → IsWithin 1 most_seats seat → seat_named (decimal seat) ≡ Some seat
seat_reads seat within = rw (number_again seat within.0 (omega (arith, within.1))) (grind (arith, within))

-- the words of a line that chooses a seat
pub seat_words : (seat : ℕ) → IsWithin 1 most_seats seat → words_of (seat_line seat) ≡ codes "seat" ∷ decimal seat ∷ []
seat_words seat within =
    let no_space : nat_eq (48 + seat) 32 ≡ false = grind (arith, nat_tests) in rw (decimal_digit seat (omega (arith, within.1)), no_space) refl

help_reads : (topic : Option Topic) → own_in (words_of (help_line topic)) ≡ Some (Help topic)
unfolding own_in topic_of
help_reads topic = grind (arith, common_steps, gets)

pub own_reads : (request : Request) (line : List ℕ) → MeansOwn request line → own_in (words_of line) ≡ Some request
unfolding own_in topic_of
own_reads (Call command times) line (p, is, repeat) =
    rw (is, repeat.0) (ap (option_and_then repeat_from) (step_reads (step_with p (Some times)) _ (record { are = refl; in_range = repeat.1.1 })))
own_reads (Ask inquiry) line is = inquiry_reads inquiry (words_of line) is
own_reads (Watch true) line is = rw is refl
own_reads (Watch false) line is = rw is refl
own_reads (Seat seat) line (within, is) = rw is (ap own_in (seat_words seat within) ∙ ap (option_map Seat) (seat_reads seat within))
own_reads (Help topic) line is = rw is (help_reads topic)
own_reads Quit line is = rw is refl
own_reads other line none = absurd none

-- ---- and is such a line where it is read so

alone_says : (first : Request) (words : List (List ℕ)) (request : Request) → alone first words ≡ Some request → (words ≡ []) × (first ≡ request)
alone_says first [] request e = (refl, cc)
alone_says first (word ∷ words) request e = cc

seat_says : (word : List ℕ) (seat : ℕ) → seat_named word ≡ Some seat → (word ≡ decimal seat) × IsWithin 1 most_seats seat
seat_says word seat e =
    let n = from_then seat_from (number_of word) seat e in
    let (is, low, high) = number_says word n.0 n.1 in
    let its : (n.0 ≡ seat) × (n.0 ≤ most_seats) = grind (arith, n) in
    rw (← its.0) (is, (low, its.1))

module _ (line : List ℕ) where
  joined : {words : List (List ℕ)} → words_of line ≡ words → line ≡ join_with_byte 32 words
  joined are = sym (join_with_byte-slice_split 32 line) ∙ ap (join_with_byte 32) are

  help_says : (words : List (List ℕ)) (request : Request) → words_of line ≡ codes "help" ∷ words → help_in words ≡ Some request → MeansOwn request line
  help_says [] request are e = let same : Help None ≡ request = cc in rw (← same) (joined are)
  help_says (word ∷ []) request are e =
      let its = from_map (λ t. Help (Some t)) (topic_of word) request e in
      rw (← its.2) (joined (are ∙ ap (λ (w : List ℕ). codes "help" ∷ w ∷ []) (topic_says word its.0 its.1)))
  help_says (word ∷ other ∷ words) request are e = cc

  seat_chosen : (words : List (List ℕ)) (request : Request) → words_of line ≡ codes "seat" ∷ words → own_behind topic.Seat words ≡ Some request
      → MeansOwn request line
  seat_chosen [] request are e = cc
  seat_chosen (word ∷ []) request are e =
      let its = from_map Seat (seat_named word) request e in
      let is = seat_says word its.0 its.1 in
      rw (← its.2) (is.1, joined (are ∙ ap (λ (w : List ℕ). codes "seat" ∷ w ∷ []) is.0))
  seat_chosen (word ∷ other ∷ words) request are e = cc

  alone_means : (first : Request) (text : List ℕ) (words : List (List ℕ)) (request : Request) → words_of line ≡ text ∷ words
      → alone first words ≡ Some request → (line ≡ text → MeansOwn first line) → MeansOwn request line
  alone_means first text words request are e means =
      let its = alone_says first words request e in rw (← its.1) (means (joined (rw its.0 at are)))

  behind_says : (first : Topic) (words : List (List ℕ)) (request : Request) → words_of line ≡ topic_word first ∷ words
      → own_behind first words ≡ Some request → MeansOwn request line
  behind_says topic.Auto words request are e =
      let step = from_then repeat_from (step_in words) request e in
      let count = from_map (Call (Auto step.0.p)) step.0.k request step.2 in
      let its = step_says words step.0 step.1 in
      rw (← count.2) (step.0.p, refl, (are ∙ ap (λ (ws : List (List ℕ)). codes "auto" ∷ ws) (rw count.1 at its.are), (tt, rw count.1 at its.in_range)))
  behind_says topic.Explain words request are e =
      let its = from_map (λ step. Ask (Explain step)) (step_in words) request e in rw (← its.2, are) (refl, step_says words its.0 its.1)
  behind_says topic.Trail words request are e =
      let its = from_map (λ step. Ask (Trail step)) (step_in words) request e in rw (← its.2, are) (refl, step_says words its.0 its.1)
  behind_says topic.Draw words request are e =
      let its = from_map Ask (drawing_in words) request e in rw (← its.2, are) (drawing_says words its.0 its.1)
  behind_says topic.Watch words request are e = alone_means (Watch true) _ words request are e (λ is. is)
  behind_says topic.Unwatch words request are e = alone_means (Watch false) _ words request are e (λ is. is)
  behind_says topic.Help words request are e = help_says words request are e
  behind_says topic.Quit words request are e = alone_means Quit _ words request are e (λ is. is)
  behind_says topic.Seat words request are e = seat_chosen words request are e
  behind_says first words request are e = cc

  says : (words : List (List ℕ)) (request : Request) → words_of line ≡ words → own_in words ≡ Some request → MeansOwn request line
  unfolding own_in
  says [] request are e = cc
  says (word ∷ words) request are e =
      let first = from_then (λ first. own_behind first words) (topic_of word) request e in
      behind_says first.0 words request (are ∙ ap (λ (w : List ℕ). w ∷ words) (topic_says word first.0 first.1)) first.2

  pub own_says : (request : Request) → own_in (words_of line) ≡ Some request → MeansOwn request line
  own_says request e = says (words_of line) request refl e

  pub not_own : own_in (words_of line) ≡ None → ¬ IsOwn line
  not_own none (request, means) = let e = sym none ∙ own_reads request line means in cc

  -- ---- a line asks for one thing

  pub only_too_long : longest < length line → (other : Request) → AsksFor other line → other ≡ TooLong
  only_too_long long other asks = grind (arith, common_steps, gets)

  module _ (few : length line ≤ longest) where
    pub asks_own : (request : Request) → MeansOwn request line → AsksFor request line
    asks_own (Call command times) means = (few, inr means)
    asks_own (Fault fault) means = absurd means
    asks_own TooLong means = absurd means
    asks_own request means = (few, means)

    pub only_own : (request : Request) → own_in (words_of line) ≡ Some request → (other : Request) → AsksFor other line → other ≡ request
    only_own request reads (Call command times) (low, inl asks) = absurd (asks.0 (request, own_says request reads))
    only_own request reads (Call command times) (low, inr means) = let e = sym reads ∙ own_reads (Call command times) line means in cc
    only_own request reads (Fault fault) asks = absurd (asks.1.0 (request, own_says request reads))
    only_own request reads TooLong long = absurd (omega (arith, few, long))
    only_own request reads other asks = let e = sym reads ∙ own_reads other line asks.1 in cc

    -- what a line asks for that is read as a command, or has a fault
    abbrev pub asked : Result Command LineFault → Request
    asked (Ok command) = Call command 1
    asked (Err fault) = Fault (record { line = line; fault = fault })

    pub only_read : (read : Result Command LineFault) → ((command : Command) → IsLineOf command line → read ≡ Ok command)
        → ((fault : LineFault) → IsFaultOf fault line → read ≡ Err fault) → ¬ IsOwn line → (other : Request) → AsksFor other line → other ≡ asked read
    only_read read command_is fault_is none (Call command times) (low, inl asks) = rw (command_is command asks.1, asks.2) refl
    only_read read command_is fault_is none (Call command times) (low, inr means) = absurd (none (Call command times, means))
    only_read read command_is fault_is none (Fault fault) (low, asks) = rw (fault_is fault.fault asks.1, ← asks.2) refl
    only_read read command_is fault_is none TooLong long = absurd (omega (arith, few, long))
    only_read read command_is fault_is none other asks = absurd (none (other, asks.1))

pub ruleset one_request = (asks_own, not_own, only_own, only_read, own_says)
