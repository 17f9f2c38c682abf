-- A whole line: what is read of its words from the left is their command, or their first fault.
use Rattle.std.proofs.Common.{◌≡◌, ◌≢◌, ◌⊎◌, ℕ, Bool, true, false, ◌&&◌, List, [], ◌∷◌, ◌++◌, map, Option, Some, None, arith, bytes_eq, refl, sym, ap, subst}
use Rattle.std.proofs.Common.{◌∙◌, append_assoc, inl, inr, lit≤, ◌-◌, ◌≤◌, length, get_or, ◌↔◌, eqb}
use Rattle.std.proofs.lemmas.Grind.{common_steps}
use Rattle.std.proofs.lemmas.Option.{gets}
use Rattle.std.specs.Prelude.{Result, Ok, Err, codes, decimal, ok_or, if◌then◌else◌}
use Prim.Native.String.{String}
use Rattle.std.specs.List.{AllByRecursion}
use Rattle.std.proofs.lemmas.Bool.{and_parts, cases_Bool}
use Rattle.std.proofs.lemmas.List.{append-nil}
use Rattle.std.proofs.lemmas.Slice.Eq.{bytes_eq-Decides, HasBytesAt, text_from_reads}
use Rattle.cdb_base.specs.declared.register.Reg.{Reg}
use Rattle.cdb_base.specs.declared.register.Reg.TheVariants.{Dec}
use Rattle.cdb_commands.specs.declared.command.Command.{Command}
use Rattle.cdb_text.specs.declared.fault.LineFault.{LineFault}
use Rattle.cdb_text.specs.declared.fault.LineFault.TheVariants.{Word, Number, Extra, Missing, Empty}
use Rattle.cdb_text.specs.Commands.{CommandPart, fixed, command_parts}
use Rattle.cdb_text.specs.Grammar.{IsInRange, part_text, HasNumbersInRange, AreWordsOf, words_of}
use Rattle.cdb_text.specs.Readers.{◌>>=◌, register_named, Reader, end, word, last_word, number, number_or_end, register, read_by}
use Rattle.cdb_text.specs.Numbers.{number_of}
use Rattle.cdb_text.proofs.Numbers.{number_again, number_says, has_letter, number_is_no_word, number_is_no_register, register_again, register_says}
use Rattle.cdb_text.specs.Lines.{after_step, after_break, after_show, after_verb, whole_line}
use Rattle.cdb_text.specs.Faults.{GoesOn, IsFaultAt, IsFirstFaultOfWords, IsFaultOf}
use Rattle.std.proofs.lemmas.Fmt.{decimal_digit}
use Rattle.cdb_commands.specs.declared.command.Command.TheVariants.{Auto}
use Rattle.cdb_text.proofs.Cut.{some_byte}
use Rattle.cdb_text.specs.Commands as part

-- ---- What a reader makes of the next word, and of all the words behind.

abbrev pub Words : Type 0
Words = List (List ℕ)

-- ---- the next word

-- the part that the next word is, and how the words behind it are read; or its fault
abbrev pub next : Reader → List ℕ → Result (CommandPart × Reader) LineFault
next (end command) w = Err Extra
next (word name behind others) w = if bytes_eq w (codes name) then Ok (fixed name, behind) else next others w
next (last_word name behind) w = if bytes_eq w (codes name) then Ok (fixed name, behind) else Err Word
next (number fault behind) w = do
  n ← ok_or (number_of w) fault
  Ok (part.number n, behind n)
next (number_or_end command behind) w = do
  n ← ok_or (number_of w) Number
  Ok (part.number n, behind n)
next (register behind) w = do
  x ← ok_or (register_named w) Word
  Ok (part.register x, behind x)

pub ok_of : {A B : Type 0} (read : Result A LineFault) (f : A → Result B LineFault) (b : B) → read >>= f ≡ Ok b → (a : A) × (read ≡ Ok a) × (f a ≡ Ok b)
ok_of (Ok x) f b e = (x, refl, e)
ok_of (Err fault) f b e = absurd cc

pub err_of : {A B : Type 0} (read : Result A LineFault) (f : A → Result B LineFault) (fault : LineFault) → read >>= f ≡ Err fault
    → (read ≡ Err fault) ⊎ ((a : A) × (read ≡ Ok a) × (f a ≡ Err fault))
err_of (Ok x) f fault e = inr (x, refl, e)
err_of (Err its) f fault e = inl (let same : its ≡ fault = cc in ap (λ (f : LineFault). Err f) same)

pub reads_next : (r : Reader) (w : List ℕ) (words : Words) → read_by r (w ∷ words) ≡ (next r w >>= λ further. read_by further.1 words)
reads_next (word name behind others) w words = grind (arith, common_steps, gets, reads_next others w words)
reads_next r w words = grind (arith, common_steps, gets)

-- ---- a reader that keeps to the table

-- more words follow
abbrev pub goes_on : Reader → Bool
goes_on (end command) = false
goes_on other = true

-- the words of these parts are `show` alone
abbrev is_show : Words → Bool
is_show (w ∷ []) = bytes_eq w (codes "show")
is_show other = false

-- the fault of a word that is no number
abbrev FitsFault : LineFault → List CommandPart → Type 0
FitsFault Word parts = parts ≡ fixed "show" ∷ []
FitsFault Number parts = is_show (map part_text parts) ≡ false
FitsFault other parts = ⊥

-- behind these parts it reads the commands of the table alone, and has the right faults
abbrev pub Keeps : Reader → List CommandPart → Type 0
Keeps (end command) parts = command_parts command ≡ parts
Keeps (word name behind others) parts =
    ((has_letter (codes name) && goes_on others) ≡ true) × Keeps behind (parts ++ fixed name ∷ []) × Keeps others parts
Keeps (last_word name behind) parts = (has_letter (codes name) ≡ true) × Keeps behind (parts ++ fixed name ∷ [])
Keeps (number fault behind) parts = FitsFault fault parts × ((n : ℕ) → Keeps (behind n) (parts ++ part.number n ∷ []))
Keeps (number_or_end command behind) parts =
    FitsFault Number parts × (command_parts command ≡ parts) × ((n : ℕ) → Keeps (behind n) (parts ++ part.number n ∷ []))
Keeps (register behind) parts = (x : Reg) → Keeps (behind x) (parts ++ part.register x ∷ [])

-- the word is the part, and the table is kept behind it
abbrev Takes : List CommandPart → List ℕ → CommandPart × Reader → Type 0
Takes parts w its = (w ≡ part_text its.0) × IsInRange its.0 × Keeps its.1 (parts ++ its.0 ∷ [])

was_some : {A : Type 0} (found : Option A) (fault : LineFault) (of : A → CommandPart × Reader) (its : CommandPart × Reader)
    → (ok_or found fault >>= λ x. Ok (of x)) ≡ Ok its → (x : A) × (found ≡ Some x) × (of x ≡ its)
was_some None fault of its e = absurd cc
was_some (Some x) fault of its e = (x, refl, cc)

module _ (parts : List CommandPart) (w : List ℕ) (its : CommandPart × Reader) where
  takes_word : (name : String) (behind : Reader) → bytes_eq w (codes name) ≡ true → Keeps behind (parts ++ fixed name ∷ [])
      → (fixed name, behind) ≡ its → Takes parts w its
  takes_word name behind h keeps same = subst (Takes parts w) same ((bytes_eq-Decides w (codes name)).0 h, tt, keeps)

  takes_number : (fault : LineFault) (behind : ℕ → Reader) → ((n : ℕ) → Keeps (behind n) (parts ++ part.number n ∷ []))
      → (ok_or (number_of w) fault >>= λ n. Ok (part.number n, behind n)) ≡ Ok its → Takes parts w its
  takes_number fault behind keeps e =
      let found = was_some (number_of w) fault (λ n. (part.number n, behind n)) its e in
      let says = number_says w found.0 found.1 in
      subst (Takes parts w) found.2 (says.0, (says.1, says.2), keeps found.0)

  pub takes : (r : Reader) → Keeps r parts → next r w ≡ Ok its → Takes parts w its
  takes (end command) keeps e = absurd cc
  takes (word name behind others) keeps e =
      elim (cases_Bool (bytes_eq w (codes name))) [
        | inl h ↦ takes_word name behind h keeps.1 (let a : Ok (fixed name, behind) ≡ Ok its = rw h at e in cc)
        | inr h ↦ takes others keeps.2 (rw h at e)
      ]
  takes (last_word name behind) keeps e =
      elim (cases_Bool (bytes_eq w (codes name))) [
        | inl h ↦ takes_word name behind h keeps.1 (let a : Ok (fixed name, behind) ≡ Ok its = rw h at e in cc)
        | inr h ↦ absurd (let a : Err Word ≡ Ok its = rw h at e in cc)
      ]
  takes (number fault behind) keeps e = takes_number fault behind keeps.1 e
  takes (number_or_end command behind) keeps e = takes_number Number behind keeps.2 e
  takes (register behind) keeps e =
      let found = was_some (register_named w) Word (λ x. (part.register x, behind x)) its e in
      let says = register_says w found.0 found.1 in
      subst (Takes parts w) found.2 (says.0, says.1, keeps found.0)

-- the words complete the parts to the command
abbrev pub Completes : List CommandPart → Words → Command → Type 0
Completes parts words command =
    (more : List CommandPart) × (command_parts command ≡ parts ++ more) × (words ≡ map part_text more) × AllByRecursion IsInRange more

none_more : (r : Reader) (parts : List CommandPart) (command : Command) → Keeps r parts → read_by r [] ≡ Ok command → command_parts command ≡ parts
none_more (end c) parts command keeps e = let same : c ≡ command = cc in rw same at keeps
none_more (number_or_end c behind) parts command keeps e = let same : c ≡ command = cc in rw same at keeps.1
none_more other parts command keeps e = absurd cc

-- a command that is read completes the parts
pub completes : (words : Words) (r : Reader) (parts : List CommandPart) (command : Command) → Keeps r parts → read_by r words ≡ Ok command
    → Completes parts words command
completes [] r parts command keeps e = ([], none_more r parts command keeps e ∙ sym (append-nil parts), refl, tt)
completes (w ∷ words) r parts command keeps e =
    let its = ok_of (next r w) (λ its. read_by its.1 words) command (sym (reads_next r w words) ∙ e) in
    let took = takes parts w its.0 r keeps its.1 in
    let found = completes words its.0.1 (parts ++ its.0.0 ∷ []) command took.2 its.2 in (
      its.0.0 ∷ found.0,
      found.1 ∙ append_assoc parts (its.0.0 ∷ []) found.0,
      (let a = took.0 in let b = found.2 in cc),
      (took.1, found.3),
    )

-- ---- how a command goes on

-- some command goes on with this word
abbrev pub Goes : Reader → List ℕ → Type 0
Goes r w = (words : Words) × (command : Command) × (read_by r (w ∷ words) ≡ Ok command)

pub one : IsInRange (part.number 1)
one = (lit≤ tt, lit≤ tt)

same_bytes : (w : List ℕ) → bytes_eq w w ≡ true
same_bytes w = (bytes_eq-Decides w w).1 refl

-- each reader reads a command
some_command : (r : Reader) → (words : Words) × (command : Command) × (read_by r words ≡ Ok command)
some_command (end command) = ([], command, refl)
some_command (word name behind others) = let found = some_command behind in (codes name ∷ found.0, found.1, rw (same_bytes (codes name)) found.2)
some_command (last_word name behind) = let found = some_command behind in (codes name ∷ found.0, found.1, rw (same_bytes (codes name)) found.2)
some_command (number fault behind) = let found = some_command (behind 1) in (decimal 1 ∷ found.0, found.1, rw (number_again 1 one.0 one.1) found.2)
some_command (number_or_end command behind) = ([], command, refl)
some_command (register behind) = let found = some_command (behind Dec) in (codes "dec" ∷ found.0, found.1, rw (register_again Dec tt) found.2)

goes_to : (r : Reader) (w : List ℕ) (further : CommandPart × Reader) → next r w ≡ Ok further → Goes r w
goes_to r w further is = let found = some_command further.1 in (found.0, found.1, reads_next r w found.0 ∙ rw is found.2)

goes_with_1 : (r : Reader) (behind : ℕ → Reader) (fault : LineFault)
    → next r (decimal 1) ≡ (◌>>=◌ {B = CommandPart × Reader} (ok_or (number_of (decimal 1)) fault) (λ n. Ok (part.number n, behind n))) → Goes r (decimal 1)
goes_with_1 r behind fault is = goes_to r (decimal 1) (part.number 1, behind 1) (is ∙ rw (number_again 1 one.0 one.1) refl)

first_goes : (r : Reader) → goes_on r ≡ true → (w : List ℕ) × Goes r w
first_goes (end command) e = absurd cc
first_goes (word name behind others) e = (codes name, goes_to (word name behind others) (codes name) (fixed name, behind) (rw (same_bytes (codes name)) refl))
first_goes (last_word name behind) e = (codes name, goes_to (last_word name behind) (codes name) (fixed name, behind) (rw (same_bytes (codes name)) refl))
first_goes (number fault behind) e = (decimal 1, goes_with_1 (number fault behind) behind fault refl)
first_goes (number_or_end command behind) e = (decimal 1, goes_with_1 (number_or_end command behind) behind Number refl)
first_goes (register behind) e = (codes "dec", goes_to (register behind) (codes "dec") (part.register Dec, behind Dec) (rw (register_again Dec tt) refl))

-- where a word is missing, some command goes on
pub missing : (r : Reader) (fault : LineFault) → read_by r [] ≡ Err fault → (Missing ≡ fault) × ((w : List ℕ) × Goes r w)
missing (end command) fault e = absurd cc
missing (number_or_end command behind) fault e = absurd cc
missing r fault e = (cc, first_goes r refl)

-- ---- where no command goes on

-- what a fault says of the reader
abbrev pub Refuses : LineFault → Reader → List CommandPart → Type 0
Refuses Extra r parts = (goes_on r ≡ false) × ((command : Command) × (read_by r [] ≡ Ok command)) × ((w : List ℕ) → next r w ≡ Err Extra)
Refuses Number r parts = Goes r (decimal 1) × (map part_text parts ≢ codes "show" ∷ [])
Refuses Word r parts =
    ((w : List ℕ) × Goes r w)
    × ((map part_text parts ≡ codes "show" ∷ []) ⊎ ((n : ℕ) → IsInRange (part.number n) → next r (decimal n) ≡ Err Word))
Refuses other r parts = ⊥

not_show : (words : Words) → is_show words ≡ false → words ≢ codes "show" ∷ []
not_show words differs same = let a : is_show (codes "show" ∷ []) ≡ false = rw same at differs in cc

-- what the others refuse
among : (name : String) (behind others : Reader) (parts : List CommandPart) (fault : LineFault)
    → (has_letter (codes name) && goes_on others) ≡ true → Refuses fault others parts → Refuses fault (word name behind others) parts
among name behind others parts Word test its = (
  first_goes (word name behind others) refl,
  elim its.1 [
    | inl show ↦ inl show
    | inr none ↦ inr (λ n is. rw (number_is_no_word (codes name) n (and_parts _ _ test).0 is) (none n is))
  ],
)
among name behind others parts Number test its = ((its.0.0, its.0.1, rw (number_is_no_word (codes name) 1 (and_parts _ _ test).0 one) its.0.2), its.1)
among name behind others parts Extra test its =
    let more : goes_on others ≡ true = (and_parts (has_letter (codes name)) _ test).1 in
    let none : goes_on others ≡ false = its.0 in
    absurd cc
among name behind others parts fault test its = absurd its

refuses_number : (r : Reader) (fault : LineFault) (parts : List CommandPart)
    → Goes r (decimal 1) → FitsFault fault parts → Refuses fault r parts
refuses_number r Word parts goes fits = ((decimal 1, goes), inl (ap (map part_text) fits))
refuses_number r Number parts goes fits = (goes, not_show _ fits)
refuses_number r fault parts goes fits = absurd fits

its_fault : {A : Type 0} (found : Option A) (behind : A → CommandPart × Reader) (its fault : LineFault)
    → (ok_or found its >>= λ x. Ok (behind x)) ≡ Err fault → its ≡ fault
its_fault found behind its fault faulty = grind (arith, common_steps, gets)

pub refuses : (r : Reader) (parts : List CommandPart) (w : List ℕ) (fault : LineFault) → Keeps r parts → next r w ≡ Err fault → Refuses fault r parts
refuses (end command) parts w fault keeps e =
    let same : Extra ≡ fault = cc in subst (λ f. Refuses f (end command) parts) same (refl, (command, refl), λ w. refl)
refuses (word name behind others) parts w fault keeps e =
    elim (cases_Bool (bytes_eq w (codes name))) [
      | inl h ↦ absurd (let a : Ok (fixed name, behind) ≡ Err fault = rw h at e in cc)
      | inr h ↦ among name behind others parts fault keeps.0 (refuses others parts w fault keeps.2 (rw h at e))
    ]
refuses (last_word name behind) parts w fault keeps e =
    elim (cases_Bool (bytes_eq w (codes name))) [
      | inl h ↦ absurd (let a : Ok (fixed name, behind) ≡ Err fault = rw h at e in cc)
      | inr h ↦
          let same : Word ≡ fault = (let a : Err Word ≡ Err fault = rw h at e in cc) in
          subst (λ f. Refuses f (last_word name behind) parts) same
          (first_goes (last_word name behind) refl, inr (λ n is. rw (number_is_no_word (codes name) n keeps.0 is) refl))
    ]
refuses (number its behind) parts w fault keeps e =
    let r : Reader = number its behind in
    subst (λ f. Refuses f r parts) (its_fault (number_of w) (λ n. (part.number n, behind n)) its fault e)
    (refuses_number r its parts (goes_with_1 r behind its refl) keeps.0)
refuses (number_or_end command behind) parts w fault keeps e =
    let r : Reader = number_or_end command behind in
    subst (λ f. Refuses f r parts) (its_fault (number_of w) (λ n. (part.number n, behind n)) Number fault e)
    (refuses_number r Number parts (goes_with_1 r behind Number refl) keeps.0)
refuses (register behind) parts w fault keeps e =
    subst (λ f. Refuses f (register behind) parts) (its_fault (register_named w) (λ x. (part.register x, behind x)) Word fault e)
    (first_goes (register behind) refl, inr (λ n is. rw (number_is_no_register n is) refl))

-- ---- The lines of the table of the commands are read, each as its command, and no others.

pub keeps : Keeps whole_line []
unfolding whole_line after_step after_break after_show after_verb
keeps = search depth 40 parts 40

pub again : (command : Command) → HasNumbersInRange command → read_by whole_line (map part_text (command_parts command)) ≡ Ok command
unfolding whole_line after_step after_break after_show after_verb
again command is = grind (arith, common_steps, gets, number_again, number_is_no_word, register_again)

-- ---- What is read from the left is the command of all the words, or their first fault.

-- the words of a command that is read are its own
pub sound : (words : Words) (command : Command) → read_by whole_line words ≡ Ok command → AreWordsOf command words
sound words command e =
    let found = completes words whole_line [] command keeps e in
    (found.2 ∙ sym (ap (map part_text) found.1), subst (λ (ps : List CommandPart). AllByRecursion IsInRange ps) (sym found.1) found.3)

-- behind these parts the rest of a line is read so
abbrev Reads : List CommandPart → Reader → Type 0
Reads parts r = (rest : Words) → read_by whole_line (map part_text parts ++ rest) ≡ read_by r rest

one_more : (parts : List CommandPart) (part : CommandPart) (rest : Words)
    → map part_text (parts ++ part ∷ []) ++ rest ≡ map part_text parts ++ part_text part ∷ rest
one_more parts part rest = grind (arith, common_steps, gets)

module _ (parts : List CommandPart) (r : Reader) (reads : Reads parts r) where
  goes : (w : List ℕ) → Goes r w → GoesOn (map part_text parts) w
  goes w found = (found.1, found.0, sound (map part_text parts ++ w ∷ found.0) found.1 (reads (w ∷ found.0) ∙ found.2))

  stops : (w : List ℕ) (fault : LineFault) → next r w ≡ Err fault → ¬ GoesOn (map part_text parts) w
  stops w fault is found =
      let read : read_by whole_line (map part_text parts ++ w ∷ found.1) ≡ Ok found.0 = ap (read_by whole_line) found.2.0 ∙ again found.0 found.2.1 in
      let on = sym (reads_next r w found.1) ∙ sym (reads (w ∷ found.1)) ∙ read in
      absurd (let a : Err fault ≡ Ok found.0 = rw is at on in cc)

  whole : (command : Command) → read_by r [] ≡ Ok command → AreWordsOf command (map part_text parts)
  whole command e = rw append-nil at (sound (map part_text parts ++ []) command (reads [] ∙ e))

  fault_at : (w : List ℕ) (fault : LineFault) → next r w ≡ Err fault → Refuses fault r parts → IsFaultAt fault (map part_text parts) (Some w)
  fault_at w Extra is its = ((its.1.0, whole its.1.0 its.1.1), λ other. stops other Extra (its.2 other))
  fault_at w Number is its = (stops w Number is, (1, one, goes (decimal 1) its.0), its.1)
  fault_at w Word is its = (
    stops w Word is,
    (its.0.0, goes its.0.0 its.0.1),
    λ n. elim its.1 [
      | inl show ↦ show
      | inr none ↦ absurd (stops (decimal n.0) Word (none n.0 n.1) n.2)
    ],
  )
  fault_at w fault is its = absurd its

  first_at : (w : List ℕ) (rest : Words) (fault : LineFault)
      → IsFaultAt fault (map part_text parts) (Some w) → IsFirstFaultOfWords fault (map part_text parts ++ w ∷ rest)
  first_at w rest Missing at = absurd at
  first_at w rest fault at = (map part_text parts, w, rest, refl, at)

  missing_at : (w : List ℕ) → Goes r w → read_by r [] ≡ Err Missing → IsFirstFaultOfWords Missing (map part_text parts ++ [])
  missing_at w found e =
      rw append-nil (
        (λ all.
            let read : read_by whole_line (map part_text parts) ≡ Ok all.0 = ap (read_by whole_line) all.1.0 ∙ again all.0 all.1.1 in
            let same = ap (read_by whole_line) (sym (append-nil (map part_text parts))) ∙ reads [] in
            cc),
        (w, goes w found),
      )

-- a fault that is read is the first
first_fault_of : (words : Words) (r : Reader) (parts : List CommandPart) (fault : LineFault) → Keeps r parts → Reads parts r
    → read_by r words ≡ Err fault → IsFirstFaultOfWords fault (map part_text parts ++ words)
first_fault_of [] r parts fault keeps reads e =
    let found = missing r fault e in
    subst (λ f. IsFirstFaultOfWords f (map part_text parts ++ [])) found.0
    (missing_at parts r reads found.1.0 found.1.1 (e ∙ ap (λ (f : LineFault). Err f) (sym found.0)))
first_fault_of (w ∷ words) r parts fault keeps reads e =
    elim (err_of (next r w) (λ its. read_by its.1 words) fault (sym (reads_next r w words) ∙ e)) [
      | inl is ↦ first_at parts r reads w words fault (fault_at parts r reads w fault is (refuses r parts w fault keeps is))
      | inr (its, is, on) ↦
          let took = takes parts w its r keeps is in
          let further_reads : Reads (parts ++ its.0 ∷ []) its.1 = λ rest.
          ap (read_by whole_line) (one_more parts its.0 rest ∙ ap (λ (v : List ℕ). map part_text parts ++ v ∷ rest) (sym took.0))
          ∙ reads (w ∷ rest) ∙ reads_next r w rest ∙ rw is refl in
          rw (one_more, ← took.0) at (first_fault_of words its.1 (parts ++ its.0 ∷ []) fault took.2 further_reads on)
    ]

pub first_fault : (words : Words) (fault : LineFault) → read_by whole_line words ≡ Err fault → IsFirstFaultOfWords fault words
first_fault words fault e = first_fault_of words whole_line [] fault keeps (λ rest. refl) e

-- ---- A line has at most one first fault, and none where it is that of a command.

-- the words begin a command, or are one
abbrev Begins : Words → Type 0
Begins words = (command : Command) × (others : Words) × AreWordsOf command (words ++ others)

-- what begins a command goes on at each position
goes_on_within : (line words : Words) (w : List ℕ) (others : Words) → line ≡ words ++ w ∷ others → Begins line → GoesOn words w
goes_on_within line words w others is begins =
    let same : line ++ begins.1 ≡ words ++ w ∷ (others ++ begins.1) = ap (λ (ws : Words). ws ++ begins.1) is ∙ append_assoc words (w ∷ others) begins.1 in
    (begins.0, others ++ begins.1, subst (λ (ws : Words). AreWordsOf begins.0 ws) same begins.2)

whole_begins : (command : Command) (line : Words) → AreWordsOf command line → Begins line
whole_begins command line is = (command, [], subst (λ (ws : Words). AreWordsOf command ws) (sym (append-nil line)) is)

-- before a fault the words begin a command
fault_begins : (fault : LineFault) (words : Words) (next : Option (List ℕ)) → IsFaultAt fault words next → Begins words
fault_begins Word words (Some w) at = (at.1.1.0, at.1.0 ∷ at.1.1.1, at.1.1.2)
fault_begins Number words (Some w) at = (at.1.2.0, _, at.1.2.2)
fault_begins Extra words (Some w) at = whole_begins at.0.0 words at.0.1
fault_begins Missing words None at = (at.1.1.0, at.1.0 ∷ at.1.1.1, at.1.1.2)
fault_begins fault words next at = absurd at

-- no command goes on with the word of a fault
fault_stops : (fault : LineFault) (words : Words) (w : List ℕ) → IsFaultAt fault words (Some w) → ¬ GoesOn words w
fault_stops Word words w at = at.0
fault_stops Number words w at = at.0
fault_stops Extra words w at = at.1 w
fault_stops fault words w at = absurd at

-- a word has one fault
one_fault_at : (f g : LineFault) (words : Words) (w : List ℕ) → IsFaultAt f words (Some w) → IsFaultAt g words (Some w) → f ≡ g
one_fault_at Word Word words w a b = refl
one_fault_at Word Number words w a b = absurd (b.2 (a.2 b.1))
one_fault_at Word Extra words w a b = absurd (b.1 a.1.0 a.1.1)
one_fault_at Number Word words w a b = absurd (a.2 (b.2 a.1))
one_fault_at Number Number words w a b = refl
one_fault_at Number Extra words w a b = absurd (b.1 _ a.1.2)
one_fault_at Extra Word words w a b = absurd (a.1 b.1.0 b.1.1)
one_fault_at Extra Number words w a b = absurd (a.1 _ b.1.2)
one_fault_at Extra Extra words w a b = refl
one_fault_at Empty g words w a b = absurd a
one_fault_at Missing g words w a b = absurd a
one_fault_at f g words w a b = absurd b

-- one list cut twice: at one position, or one position is behind the other
cut_twice : (xs : Words) (x : List ℕ) (us ys : Words) (y : List ℕ) (vs : Words) → xs ++ x ∷ us ≡ ys ++ y ∷ vs
    → ((xs ≡ ys) × (x ≡ y)) ⊎ (((more : Words) × (ys ≡ xs ++ x ∷ more)) ⊎ ((more : Words) × (xs ≡ ys ++ y ∷ more)))
cut_twice [] x us [] y vs e = inl (refl, cc)
cut_twice [] x us (z ∷ ys) y vs e = inr (inl (ys, (let same : z ≡ x = cc in cc)))
cut_twice (w ∷ xs) x us [] y vs e = inr (inr (xs, (let same : w ≡ y = cc in cc)))
cut_twice (w ∷ xs) x us (z ∷ ys) y vs e =
    let front : w ≡ z = cc in
    elim (cut_twice xs x us ys y vs cc) [
      | inl both ↦ inl ((let a = both.0 in cc), both.1)
      | inr (inl behind) ↦ inr (inl (behind.0, (let a = behind.1 in cc)))
      | inr (inr behind) ↦ inr (inr (behind.0, (let a = behind.1 in cc)))
    ]

-- a fault at a word of the line
abbrev StopsIn : LineFault → Words → Type 0
StopsIn fault line = (words : Words) × (w : List ℕ) × (others : Words) × (line ≡ words ++ w ∷ others) × IsFaultAt fault words (Some w)

-- no line that begins a command has a fault at a word
begins_nowhere_stops : (fault : LineFault) (line : Words) → Begins line → ¬ StopsIn fault line
begins_nowhere_stops fault line begins stops = fault_stops fault stops.0 stops.1 stops.4 (goes_on_within line stops.0 stops.1 stops.2 stops.3 begins)

stop_at_one : (f g : LineFault) (line : Words) → StopsIn f line → StopsIn g line → f ≡ g
stop_at_one f g line a b =
    elim (cut_twice a.0 a.1 a.2 b.0 b.1 b.2 (sym a.3 ∙ b.3)) [
      | inl same ↦
          one_fault_at f g b.0 b.1 (subst (λ (w : List ℕ). IsFaultAt f b.0 (Some w)) same.1 (subst (λ (ws : Words). IsFaultAt f ws (Some a.1)) same.0 a.4)) b.4
      | inr (inl behind) ↦ absurd (fault_stops f a.0 a.1 a.4 (goes_on_within b.0 a.0 a.1 behind.0 behind.1 (fault_begins g b.0 (Some b.1) b.4)))
      | inr (inr behind) ↦ absurd (fault_stops g b.0 b.1 b.4 (goes_on_within a.0 b.0 b.1 behind.0 behind.1 (fault_begins f a.0 (Some a.1) a.4)))
    ]

missing_alone : (fault : LineFault) (line : Words) → IsFirstFaultOfWords Missing line → IsFirstFaultOfWords fault line → Missing ≡ fault
missing_alone Missing line missing first = refl
missing_alone fault line missing first = absurd (begins_nowhere_stops fault line (fault_begins Missing line None missing) first)

pub one_first_fault : (f g : LineFault) (line : Words) → IsFirstFaultOfWords f line → IsFirstFaultOfWords g line → f ≡ g
one_first_fault Missing g line a b = missing_alone g line a b
one_first_fault f Missing line a b = sym (missing_alone f line b a)
one_first_fault f g line a b = stop_at_one f g line a b

-- the words of a command have no fault
pub whole_has_no_fault : (command : Command) (fault : LineFault) (line : Words) → AreWordsOf command line → ¬ IsFirstFaultOfWords fault line
whole_has_no_fault command Missing line is first = first.0 (command, is)
whole_has_no_fault command fault line is first = begins_nowhere_stops fault line (whole_begins command line is) first

-- ---- A line `auto P`, where the number has one digit.

cut : (digit : ℕ) → 49 ≤ digit → words_of (97 ∷ 117 ∷ 116 ∷ 111 ∷ 32 ∷ digit ∷ []) ≡ codes "auto" ∷ (digit ∷ []) ∷ []
cut digit high = grind (arith, common_steps, gets)

words : (line : List ℕ) (digit : ℕ) → line ≡ 97 ∷ 117 ∷ 116 ∷ 111 ∷ 32 ∷ digit ∷ [] → 49 ≤ digit → digit ≤ 57 → AreWordsOf (Auto (digit - 48)) (words_of line)
words line digit is low high =
    let back : decimal (digit - 48) ≡ digit ∷ [] = decimal_digit (digit - 48) (omega arith) ∙ ap (λ d. d ∷ []) (omega arith) in (
      ap words_of is ∙ cut digit low ∙ ap (λ (w : List ℕ). codes "auto" ∷ w ∷ []) (sym back),
      (tt, ((omega arith, omega arith), tt)),
    )

pub short_auto : (line : List ℕ) → length line ≡ 6 → HasBytesAt line 0 (codes "auto ")
    → 49 ≤ get_or line 5 0 → get_or line 5 0 ≤ 57 → AreWordsOf (Auto (get_or line 5 0 - 48)) (words_of line)
short_auto line long reads low high =
    let is =
    text_from_reads line (97 ∷ 117 ∷ 116 ∷ 111 ∷ 32 ∷ get_or line 5 0 ∷ []) long
    (reads.0, (reads.1.0, (reads.1.1.0, (reads.1.1.1.0, (reads.1.1.1.1.0, (refl, tt)))))) in
    words line (get_or line 5 0) is low high

-- ---- A whole line.

-- what is read is the command of the words, or their first fault
pub one_command : (words : List (List ℕ)) (command : Command) → (read_by whole_line words ≡ Ok command) ↔ AreWordsOf command words
one_command words command = (sound words command, λ whole. ap (read_by whole_line) whole.0 ∙ again command whole.1)

pub one_fault : (words : List (List ℕ)) (fault : LineFault) → (read_by whole_line words ≡ Err fault) ↔ IsFirstFaultOfWords fault words
one_fault words fault = (first_fault words fault, λ first. on first (read_by whole_line words) refl)
  where
    on : IsFirstFaultOfWords fault words → (read : Result Command LineFault) → read_by whole_line words ≡ read → read_by whole_line words ≡ Err fault
    on first (Ok command) is = absurd (whole_has_no_fault command fault words (sound words command is) first)
    on first (Err other) is = is ∙ ap (λ (f : LineFault). Err f) (one_first_fault other fault words (first_fault words other is) first)

-- the first fault of a line is that of its words
of_line : (fault : LineFault) (line : List ℕ) → line ≢ [] → IsFirstFaultOfWords fault (words_of line) ↔ IsFaultOf fault line
of_line Empty line some = (λ first. absurd first.4, λ none. absurd (some none))
of_line fault line some = (λ first. (some, first), λ is. is.1)

-- a line is refused with a fault exactly where that is its first
pub fault_of_line : (line : List ℕ) → false ≡ eqb (length line) 0 → (fault : LineFault)
    → (read_by whole_line (words_of line) ≡ Err fault) ↔ IsFaultOf fault line
fault_of_line line some fault =
    let words = one_fault (words_of line) fault in
    let its = of_line fault line (some_byte line some) in
    (λ e. its.0 (words.0 e), λ is. words.1 (its.1 is))
