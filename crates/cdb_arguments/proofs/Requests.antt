-- The requests of command lines: what clap makes of the words of a line, and what they ask for.
use Rattle.clap.proofs.WalkLemmas.{first_value-rows, raw_values-rows}
use Rattle.std.proofs.Common.{◌≡◌, Bool, true, List, [], ◌∷◌, Option, Some, None, refl, inl, inr, ◌&&◌, ℕ, ◌==◌, false, not, ◌++◌, ap, subst, sym, ◌∙◌, ◌≤◌}
use Rattle.std.proofs.Common.{pos, arith, w64, codes, ap₂, length}
use Rattle.std.specs.Prelude.{IfSome, IsSome, find, option_map, fold, is_some, unwrap_or, Result, IfOk, IfErr}
use Rattle.std.specs.List.{AllByRecursion, list_all}
use Rattle.std.proofs.lemmas.Bool.{cases_Bool, and_from, and_parts, false≢true, ne_eqb, le-leb}
use Rattle.clap.specs.Simple.{entered, label_of, names_of, rows_at, argument_words, built, Shape, new_shape}
use Rattle.clap.specs.Walk.{answers_to, stop_after, Held, Names, Rule, Waiting, Walk, idle, option, positional, value, arg_by_index, finished, to_positional}
use Rattle.clap.specs.Walk.{walked, Row, nothing_held, walk, walk_from, first_of}
use Rattle.clap.specs.Words.{is_simple, is_simple_and_free, subcommand_of, takes}
use Rattle.cdb_base.specs.Requests.{Text, RequestView, Ask, Race, Debug, Script, Play, Frames, Replay, Search, Shrink, Same, asked_for}
use Rattle.clap.proofs.OnLiterals.{clap_on_literals}
use Rattle.cdb_arguments.specs.CommandLine.{program, subcommand_named, name_of}
use Rattle.std.specs.Str.{bytes_eq}
use Rattle.std.specs.Str.Parse.{starts_with_minus, digits_value, without_leading_plus}
use Rattle.std.proofs.lemmas.List.{append_assoc, append-nil}
use Rattle.clap.specs.Lexer.{long_of, short_of, usize_max}
use Rattle.clap.specs.Takes.{default_passes, is_valid, settle_passes, step_passes, turn_passes, walk_passes, level_passes}
use Rattle.cdb_arguments.specs.Plain.{ArePlain, IsPlain, AreDigitsOf, WritesCount, WritesNumber, IsSubcommandLine, IsUsual, WritesStep, question_name}
use Rattle.cdb_arguments.specs.Plain.{step_asked, IsLine}
use Rattle.std.proofs.lemmas.Int.{fits_signed_from_abs}
use Rattle.std.proofs.Math.Dec.{le→leb}
use Rattle.clap.specs.ValueTests.{accepts}
use Rattle.clap.specs.Values.{IsSignedIn}
use Rattle.clap.proofs.ValueTestLemmas.{Accepts-accepts}
use Rattle.cdb_arguments.specs.RequestsOfRows.{IsNumberOf, AsksFor, NamesAsked, AsksStep, IsAnyStepIn, IsNumber, IsStepIn, text_at, IsRequest}
use Rattle.cdb_arguments.specs.declared.command_line.Subcommand.{Subcommand}
use Rattle.cdb_base.specs.declared.question.Question.{Question}
use Rattle.cdb_base.specs.declared.question.Question.TheVariants.{Explain, Trail, Draw, Slice, Clocks, Page}
use Rattle.cdb_base.specs.declared.question.StepAsked.{StepAsked}
use Rattle.cdb_base.specs.Limits.{COLUMNS}
use Rattle.std.proofs.lemmas.Result.{IfOk-weaker}
use Rattle.cdb_base.specs.Memory.{no_memory}
use Rattle.cdb_base.specs.declared.request.Request.{Request}
use Rattle.cdb_arguments.specs.declared.request.ArgumentsFault.{ArgumentsFault}
use Rattle.cdb_arguments.specs.declared.request.ArgumentsFault.TheVariants.{NoMemory}
use Rattle.clap.specs.declared.builder.value_parser.ValueParser.TheVariants as vp
use Rattle.cdb_arguments.specs.declared.command_line.Subcommand.TheVariants as sub

-- ---- The texts of an argument, by the matches.

pub ruleset first_value = first_value-rows

pub ruleset raw_values = raw_values-rows

-- ---- The program is a command whose matches clap states.

pub program_is_simple : is_simple program ≡ true
unfolding clap_on_literals program
program_is_simple = refl

pub program_is_free : is_simple_and_free program ≡ true
unfolding clap_on_literals program
program_is_free = refl

-- each of these shapes has the name of a subcommand
abbrev AreNamed : List Shape → Type 0
AreNamed shapes = AllByRecursion (λ shape. IsSome (subcommand_named shape.name)) shapes

found_is_named : (subs : List Shape) (test : Shape → Bool) (rest : List Text) → AreNamed subs
    → IfSome (option_map (λ s. rows_at s rest) (find test subs)) (λ found. IsSome (subcommand_named found.0))
found_is_named [] test rest all = tt
found_is_named (shape ∷ subs) test rest all =
    elim (cases_Bool (test shape)) [
      | inl is ↦ rw is all.0
      | inr other ↦ rw other (found_is_named subs test rest all.1)
    ]

subs_are_named : AreNamed (built program).subs
unfolding clap_on_literals program
subs_are_named = (refl, (refl, (refl, (refl, (refl, (refl, (refl, (refl, (refl, (refl, (refl, (refl, (refl, tt)))))))))))))

-- the words name one of the subcommands, or none
pub names_one : (words : List Text) → IfSome (subcommand_of program words) (λ found. IsSome (subcommand_named found.0))
names_one words = entered_is_named (stop_after (built program).top.rules (names_of (built program)) (argument_words program words))
  where
    entered_is_named : (stop : Option (Text × List Text)) → IfSome (entered (built program) stop) (λ found. IsSome (subcommand_named found.0))
    entered_is_named None = tt
    entered_is_named (Some p) = found_is_named (built program).subs (λ s. answers_to p.0 (label_of s)) p.1 subs_are_named

-- ---- What clap makes of words that are no options.

-- ---- one word

-- none of clap's tests takes the word for an option
pub record IsNoOption (word : Text) : Type 0 where
  pub dashes : bytes_eq word (45 ∷ 45 ∷ []) ≡ false
  pub long : long_of word ≡ None
  pub short : short_of word ≡ None
  pub minus : starts_with_minus word ≡ false

pub no_option : (word : Text) → IsPlain word → IsNoOption word
no_option [] plain = record { dashes = refl; long = refl; short = refl; minus = refl }
no_option (first ∷ rest) plain =
    let other : (first == 45) ≡ false = ne_eqb first 45 plain in
    record { dashes = rw other refl; long = rw other refl; short = rw other refl; minus = other }

-- no option waits for a value
abbrev pub waits_for_none : Waiting → Bool
waits_for_none (option id) = false
waits_for_none waiting = true

-- a positional argument takes the next word
abbrev pub takes_one : Shape → Walk → Bool
takes_one shape w =
    not (is_some w.stopped)
    && (not w.is_trailing && (waits_for_none w.waiting && step_passes shape w.position w.held value))

-- the walk with one more value of a positional argument
abbrev pub with_value : List Rule → Walk → Text → Walk
with_value rules w word = to_positional rules (arg_by_index rules w.position) word w w.held

-- the walk takes the word as a value, and does not refuse it
abbrev TakesAsValue : Shape → Walk → Text → Type 0
TakesAsValue shape w word =
    (walked shape.rules [] w word ≡ with_value shape.rules w word) × (turn_passes shape [] w word ≡ true)

module _ (shape : Shape) (word : Text) (no : IsNoOption word) where
  word_taken : (held : Held) (waiting : Waiting) (position : ℕ) (is_trailing : Bool)
      (stopped : Option (Text × List Text))
      → let w : Walk =
      record { held = held; waiting = waiting; position = position; is_trailing = is_trailing; stopped = stopped } in
      takes_one shape w ≡ true → TakesAsValue shape w word
  unfolding walked
  word_taken held idle position false None takes =
      (rw (no.dashes, no.long, no.short) refl, rw (no.dashes, no.long, no.short) takes)
  word_taken held positional position false None takes =
      (rw (no.dashes, no.long, no.short) refl, rw (no.dashes, no.long, no.short) takes)
  word_taken held (option id) position false None takes = absurd (false≢true takes)
  word_taken held waiting position true None takes = absurd (false≢true takes)
  word_taken held waiting position is_trailing (Some stop) takes = absurd (false≢true takes)

-- ---- all the words of a line

-- what is held at the end is complete
abbrev pub end_passes : Shape → Held → Bool
end_passes shape end =
    settle_passes shape.rules shape.args_override_self end
    && (list_all default_passes shape.rules && is_valid shape (finished shape.rules end) false)

-- positional arguments take the words, and what is then held is complete
abbrev pub line_passes : Shape → Walk → List Text → Bool
line_passes shape w [] = end_passes shape w.held
line_passes shape w (word ∷ words) = takes_one shape w && line_passes shape (with_value shape.rules w word) words

-- a test of one text among them
pub test_passes : (x y : Bool) → x ≡ true → y ≡ true → ((x && true) && y) ≡ true
test_passes x y one rest = and_from _ _ (and_from x true one refl) rest

pub words_taken : (shape : Shape) (w : Walk) (words : List Text) → ArePlain words → line_passes shape w words ≡ true
    → let end = fold (walked shape.rules []) w words in
    (end ≡ fold (with_value shape.rules) w words) × ((walk_passes shape [] w words && end_passes shape end.held) ≡ true)
unfolding walk_passes
words_taken shape w [] plain passes = (refl, passes)
words_taken shape w (word ∷ words) plain passes =
    let first = and_parts _ _ passes in
    let one : TakesAsValue shape w word =
    word_taken shape word (no_option word plain.0) w.held w.waiting w.position w.is_trailing w.stopped first.0 in
    let rest = words_taken shape (with_value shape.rules w word) words plain.1 first.1 in (
      ap (λ next. fold (walked shape.rules []) next words) one.0 ∙ rest.0,
      rw one.1 (subst (λ (next : Walk). (walk_passes shape [] next words
          && end_passes shape (fold (walked shape.rules []) next words).held) ≡ true) (sym one.0) rest.1),
    )

-- after a subcommand's name the words are its own
pub own_words : (shape : Shape) (names : Names) (w : Walk) (name : Text) (words more : List Text)
    → w.stopped ≡ Some (name, words)
    → let end = fold (walked shape.rules names) w more in
    (end.stopped ≡ Some (name, words ++ more)) × (end.held ≡ w.held) × (walk_passes shape names w more ≡ true)
unfolding walked walk_passes
own_words shape names w name words [] stopped = (rw append-nil stopped, refl, refl)
own_words shape names w name words (word ∷ more) stopped =
    let rest =
    own_words shape names (walked shape.rules names w word) name (words ++ word ∷ []) more (rw stopped refl) in (
      rest.0 ∙ ap (λ its. Some (name, its)) (append_assoc words (word ∷ []) more),
      rest.1 ∙ rw stopped refl,
      and_from _ _ (rw stopped refl) rest.2,
    )

-- ---- The texts of numbers are ones that clap takes, and each writes one number.

-- the text is a number of this range
abbrev pub AcceptsFrom : ℕ → ℕ → Text → Type 0
AcceptsFrom low high text = accepts false (vp.Signed (pos low) (pos high)) text ≡ true

abbrev pub AcceptsNumber : Text → Type 0
AcceptsNumber = AcceptsFrom 1 999999

module _ (low high : ℕ) (text : Text) (number : ℕ) (plain : IsPlain text) (writes : AreDigitsOf text number) where
  accepts_from : low ≤ number → number ≤ high → high ≤ 999999 → AcceptsFrom low high text
  accepts_from large small most = Accepts-accepts false (vp.Signed (pos low) (pos high)) text is_signed
    where
      is_signed : IsSignedIn (pos low) (pos high) text
      is_signed =
          let value = digits_value 10 (without_leading_plus text) in
          let same : value ≡ number = writes.1 in
          rw (no_option text plain).minus
          (writes.0, fits_signed_from_abs w64 (pos value) (omega arith), omega (arith, le→leb), omega (arith, le→leb))

pub accepts_number : (text : Text) (number : ℕ) → IsPlain text → WritesNumber text number → AcceptsNumber text
accepts_number text number plain writes = accepts_from 1 999999 text number plain writes.0 writes.1 writes.2 (omega arith)

pub accepts_count : (text : Text) (turns : ℕ) → IsPlain text → WritesCount text turns → AcceptsFrom 0 99999 text
accepts_count text turns plain writes = accepts_from 0 99999 text turns plain writes.0 (omega arith) writes.1 (omega arith)

-- the text of a number, or no text where there is no number
abbrev pub OptionWritesNumber : Option Text → Option ℕ → Type 0
OptionWritesNumber None None = Unit {0}
OptionWritesNumber (Some text) (Some number) = WritesNumber text number
OptionWritesNumber text number = ⊥

pub number_is : (text : Option Text) (k its : Option ℕ) → OptionWritesNumber text k → IsNumberOf text its → its ≡ k
number_is None None its writes is = is
number_is None (Some k) its writes is = absurd writes
number_is (Some text) None its writes is = absurd writes
number_is (Some text) (Some k) its writes is = is.1 ∙ ap (λ n. let found : Option ℕ = Some n in found) (is.2.2 k writes)

-- ---- What clap makes of the line of a subcommand.

-- clap takes the words, and its matches ask for this alone
pub record IsTaken (words : List Text) (it : RequestView) : Type 0 where
  pub taken : takes program words ≡ true
  pub only : (asked : RequestView) → NamesAsked (subcommand_of program words) asked → asked ≡ it

-- the shape of a subcommand, as clap finds it by the name
unfoldable pub shape_of : Subcommand → Shape
shape_of it =
    unwrap_or (find (λ shape. answers_to (name_of it) (label_of shape)) (built program).subs) (new_shape [])

-- clap's walk over the name of a subcommand
abbrev named : Subcommand → Walk
named it = walk (built program).top.rules (names_of (built program)) nothing_held (name_of it ∷ [])

-- there it stops, and finds the shape, whose name is that of this subcommand
record IsSub (it : Subcommand) : Type 0 where
  stops : (named it).stopped ≡ Some (name_of it, [])
  passes : level_passes (built program).top (names_of (built program)) nothing_held (name_of it ∷ []) true ≡ true
  finds : find (λ shape. answers_to (name_of it) (label_of shape)) (built program).subs ≡ Some (shape_of it)
  called : subcommand_named (shape_of it).name ≡ Some it

is_sub : (it : Subcommand) → IsSub it
unfolding clap_on_literals program shape_of
is_sub sub.Play = record { stops = refl; passes = refl; finds = refl; called = refl }
is_sub sub.Race = record { stops = refl; passes = refl; finds = refl; called = refl }
is_sub sub.Explain = record { stops = refl; passes = refl; finds = refl; called = refl }
is_sub sub.Trail = record { stops = refl; passes = refl; finds = refl; called = refl }
is_sub sub.Draw = record { stops = refl; passes = refl; finds = refl; called = refl }
is_sub sub.Slice = record { stops = refl; passes = refl; finds = refl; called = refl }
is_sub sub.Debug = record { stops = refl; passes = refl; finds = refl; called = refl }
is_sub sub.Replay = record { stops = refl; passes = refl; finds = refl; called = refl }
is_sub sub.Search = record { stops = refl; passes = refl; finds = refl; called = refl }
is_sub sub.Same = record { stops = refl; passes = refl; finds = refl; called = refl }
is_sub sub.Clocks = record { stops = refl; passes = refl; finds = refl; called = refl }
is_sub sub.Shrink = record { stops = refl; passes = refl; finds = refl; called = refl }
is_sub sub.Page = record { stops = refl; passes = refl; finds = refl; called = refl }

-- clap's walk, and its matches, once it has met these texts of a subcommand
abbrev pub walk_after : Subcommand → List Text → Walk
walk_after it = fold (with_value (shape_of it).rules) (walk_from nothing_held)

abbrev pub rows_of : Subcommand → List Text → List Row
rows_of it texts = finished (shape_of it).rules (walk_after it texts).held

abbrev pub takes_texts : Subcommand → List Text → Type 0
takes_texts it texts = line_passes (shape_of it) (walk_from nothing_held) texts ≡ true

passes_own : (shape : Shape) (names : Names) (command : Text) (texts : List Text)
    → (walk shape.rules names nothing_held (command ∷ [])).stopped ≡ Some (command, [])
    → level_passes shape names nothing_held (command ∷ []) true ≡ true
    → level_passes shape names nothing_held (command ∷ texts) true ≡ true
unfolding walk_passes
passes_own shape names command texts stops passes =
    let own = own_words shape names (walk shape.rules names nothing_held (command ∷ [])) command [] texts stops in
    rw (own.2, own.1) passes

module _ (it : Subcommand) (name : Text) (texts : List Text) where
  stops_at : stop_after (built program).top.rules (names_of (built program))
      (argument_words program (name ∷ name_of it ∷ texts))
      ≡ Some (name_of it, texts)
  unfolding program
  stops_at =
      (own_words (built program).top (names_of (built program)) (named it) (name_of it) [] texts (is_sub it).stops).0

  passes_above : level_passes (built program).top (names_of (built program)) nothing_held
      (argument_words program (name ∷ name_of it ∷ texts)) true ≡ true
  unfolding program
  passes_above =
      passes_own (built program).top (names_of (built program)) (name_of it) texts (is_sub it).stops (is_sub it).passes

  own_line_taken : (request : RequestView) → ArePlain texts → takes_texts it texts
      → ((asked : RequestView) → AsksFor it (rows_of it texts) asked → asked ≡ request)
      → IsTaken (name ∷ name_of it ∷ texts) request
  own_line_taken request plain passes only =
      let walked = words_taken (shape_of it) (walk_from nothing_held) texts plain passes in
      record {
        taken = and_from _ _ program_is_simple (rw (stops_at, (is_sub it).finds) (and_from _ _ walked.1 passes_above));
        only = λ asked names. only asked (rw (stops_at, (is_sub it).finds, (is_sub it).called, walked.0) at names);
      }

pub taken_line : (it : Subcommand) (texts words : List Text) (request : RequestView)
    → IsSubcommandLine (name_of it) texts words → takes_texts it texts
    → ((asked : RequestView) → AsksFor it (rows_of it texts) asked → asked ≡ request)
    → IsTaken words request
taken_line it texts words request ((name, is), plain) passes only =
    rw is (own_line_taken it name texts request plain passes only)

-- ---- What clap makes of the lines of questions, whose last texts may be left out.

-- ---- the step of the matches

-- a question with a step that these texts write, the second where it is given
abbrev AsksStepOf : (StepAsked → Question) → Text → Text → Text → Option Text → RequestView → Type 0
AsksStepOf question setup script p k asked =
    (step : StepAsked) × (IsNumber p step.p × IsNumberOf k step.k) × (asked ≡ Ask setup script (question step))

step_is : (question : StepAsked → Question) (setup script p : Text) (k : Option Text) (step : StepAsked)
    (asked : RequestView) → WritesNumber p step.p → OptionWritesNumber k step.k
    → AsksStepOf question setup script p k asked → asked ≡ Ask setup script (question step)
step_is question setup script p k step asked writes more (its, is, asks) =
    asks ∙ ap₂ (λ p k. Ask setup script (question (record { p = p; k = k })))
    (is.0.2 step.p writes) (number_is k step.k its.k more is.1)

-- the step that may be left out is one where there is a process, and else none
module _ (question : Option StepAsked → Question) (rows : List Row) (asked : RequestView) where
  some_step : IsSome (first_of (codes "P") rows) → AsksStep IsAnyStepIn question rows asked
      → AsksStep IsStepIn (λ step. question (Some step)) rows asked
  some_step some (None, none, asks) = absurd (false≢true (sym (ap is_some none) ∙ some))
  some_step some (Some step, is, asks) = (step, is.1, asks)

  no_step : first_of (codes "P") rows ≡ None → AsksStep IsAnyStepIn question rows asked
      → asked ≡ Ask (text_at (codes "SETUP") rows) (text_at (codes "SCRIPT") rows) (question None)
  no_step none (None, is, asks) = asks
  no_step none (Some step, is, asks) = absurd (false≢true (sym (ap is_some none) ∙ is.0))

-- a picture has 20 columns to a row, and no frames, where nothing else is said
usual_drawing : (rows : List Row) (asked : RequestView) → first_of (codes "N") rows ≡ None
    → first_of (codes "FOLDER") rows ≡ None → AsksFor sub.Draw rows asked
    → AsksStep IsAnyStepIn (λ step. Draw COLUMNS step) rows asked
usual_drawing rows asked none no_folder (columns, are, asks) =
    let are : columns ≡ COLUMNS = rw none at are in
    rw (no_folder, are) at asks

-- ---- a subcommand that takes the files of a setup and of a script, and a step

-- clap takes a process, and after it a step or none, and the subcommand asks this question
record TakesStep (it : Subcommand) (question : StepAsked → Question) : Type 0 where
  one : (setup script p : Text) → AcceptsNumber p → takes_texts it (setup ∷ script ∷ p ∷ [])
  asks_one : (setup script p : Text) (asked : RequestView) → AsksFor it (rows_of it (setup ∷ script ∷ p ∷ [])) asked
      → AsksStepOf question setup script p None asked
  two : (setup script p k : Text) → AcceptsNumber p → AcceptsNumber k → takes_texts it (setup ∷ script ∷ p ∷ k ∷ [])
  asks_two : (setup script p k : Text) (asked : RequestView)
      → AsksFor it (rows_of it (setup ∷ script ∷ p ∷ k ∷ [])) asked → AsksStepOf question setup script p (Some k) asked

module _ (it : Subcommand) (question : StepAsked → Question) (takes : TakesStep it question) (words : List Text)
    (setup script : Text) where
  step_line : (texts : List Text) (p : ℕ) (k : Option ℕ) → WritesStep texts (Some (record { p = p; k = k }))
      → IsSubcommandLine (name_of it) (setup ∷ script ∷ texts) words
      → IsTaken words (Ask setup script (question (record { p = p; k = k })))
  step_line texts p None (text, more, is, first, none) line =
      let line : IsSubcommandLine (name_of it) (setup ∷ script ∷ text ∷ []) words = rw (is, none) at line in
      taken_line it _ words _ line (takes.one setup script text (accepts_number text p line.1.1.1.0 first))
      (λ asked is. step_is question setup script text None _ asked first tt (takes.asks_one setup script text asked is))
  step_line texts p (Some k) (text, more, is, first, (other, its, second)) line =
      let line : IsSubcommandLine (name_of it) (setup ∷ script ∷ text ∷ other ∷ []) words = rw (is, its) at line in
      let accepts = accepts_number text p line.1.1.1.0 first in
      taken_line it _ words _ line
      (takes.two setup script text other accepts (accepts_number other k line.1.1.1.1.0 second))
      (λ asked is. step_is question setup script text (Some other) _ asked first second
      (takes.asks_two setup script text other asked is))

-- ---- the subcommands

explain_takes : TakesStep sub.Explain (λ step. Explain step)
unfolding clap_on_literals program shape_of
explain_takes = record {
  one = λ setup script p a. test_passes _ _ a refl;
  asks_one = λ setup script p asked is. is;
  two = λ setup script p k a b. test_passes _ _ a (test_passes _ _ b refl);
  asks_two = λ setup script p k asked is. is;
}

trail_takes : TakesStep sub.Trail (λ step. Trail step)
unfolding clap_on_literals program shape_of
trail_takes = record {
  one = explain_takes.one;
  asks_one = λ setup script p asked is. is;
  two = explain_takes.two;
  asks_two = λ setup script p k asked is. is;
}

slice_takes : TakesStep sub.Slice (λ step. Slice (Some step))
unfolding clap_on_literals program shape_of
slice_takes = record {
  one = λ setup script p a. test_passes _ _ a refl;
  asks_one = λ setup script p asked.
      some_step (λ step. Slice step) (rows_of sub.Slice (setup ∷ script ∷ p ∷ [])) asked refl;
  two = λ setup script p k a b. test_passes _ _ a (test_passes _ _ b refl);
  asks_two = λ setup script p k asked.
      some_step (λ step. Slice step) (rows_of sub.Slice (setup ∷ script ∷ p ∷ k ∷ [])) asked refl;
}

draw_takes : TakesStep sub.Draw (λ step. Draw COLUMNS (Some step))
unfolding clap_on_literals program shape_of
draw_takes = record {
  one = λ setup script p a. test_passes _ _ a refl;
  asks_one = λ setup script p asked is.
      let rows = rows_of sub.Draw (setup ∷ script ∷ p ∷ []) in
      some_step (λ step. Draw COLUMNS step) rows asked refl (usual_drawing rows asked refl refl is);
  two = λ setup script p k a b. test_passes _ _ a (test_passes _ _ b refl);
  asks_two = λ setup script p k asked is.
      let rows = rows_of sub.Draw (setup ∷ script ∷ p ∷ k ∷ []) in
      some_step (λ step. Draw COLUMNS step) rows asked refl (usual_drawing rows asked refl refl is);
}

module _ (words : List Text) (setup script : Text) where
  pub question_line : (question : Question) (texts : List Text) → WritesStep texts (step_asked question)
      → IsUsual question → IsSubcommandLine (question_name question) (setup ∷ script ∷ texts) words
      → IsTaken words (Ask setup script question)
  unfolding clap_on_literals program shape_of
  question_line (Explain step) texts writes usual line =
      step_line sub.Explain (λ step. Explain step) explain_takes words setup script texts step.p step.k writes line
  question_line (Trail step) texts writes usual line =
      step_line sub.Trail (λ step. Trail step) trail_takes words setup script texts step.p step.k writes line
  question_line (Draw columns (Some step)) texts writes usual line =
      rw usual (step_line sub.Draw (λ step. Draw COLUMNS (Some step)) draw_takes words setup script texts
      step.p step.k writes line)
  question_line (Slice (Some step)) texts writes usual line =
      step_line sub.Slice (λ step. Slice (Some step)) slice_takes words setup script texts step.p step.k writes line
  question_line (Draw columns None) texts writes usual line =
      let rows = rows_of sub.Draw (setup ∷ script ∷ []) in
      rw usual (taken_line sub.Draw (setup ∷ script ∷ []) words _ (rw writes at line) refl
      (λ asked is. no_step (λ step. Draw COLUMNS step) rows asked refl (usual_drawing rows asked refl refl is)))
  question_line (Slice None) texts writes usual line =
      taken_line sub.Slice (setup ∷ script ∷ []) words _ (rw writes at line) refl
      (λ asked. no_step (λ step. Slice step) (rows_of sub.Slice (setup ∷ script ∷ [])) asked refl)
  question_line Clocks texts writes usual line =
      taken_line sub.Clocks (setup ∷ script ∷ []) words _ (rw writes at line) refl (λ asked is. is)
  question_line Page texts writes usual line =
      taken_line sub.Page (setup ∷ script ∷ []) words _ (rw writes at line) refl (λ asked is. is)

-- ---- What clap makes of the lines of subcommands that take several scripts or seats.

-- the walk at the last argument, of which it has these texts, behind these rows
at : List Row → Text → ℕ → List Text → Walk
at rows id position texts = record {
  held = record { rows = rows; pending = Some (id, texts); skip = 0 };
  waiting = positional;
  position = position;
  is_trailing = false;
  stopped = None;
}

-- the subcommand takes one text more of its last argument each time, of which there may be as many as a word counts
record TakesMore (it : Subcommand) (rows : List Row) (id : Text) (position : ℕ) : Type 0 where
  takes : (texts : List Text) → takes_one (shape_of it) (at rows id position texts) ≡ true
  one : (texts : List Text) (text : Text)
      → with_value (shape_of it).rules (at rows id position texts) text ≡ at rows id position (texts ++ text ∷ [])
  ends : (text : Text) (more : List Text) → length (text ∷ more) ≤ usize_max
      → end_passes (shape_of it) (at rows id position (text ∷ more)).held ≡ true

module _ (it : Subcommand) (rows : List Row) (id : Text) (position : ℕ) (takes : TakesMore it rows id position) where
  walked_more : (texts more : List Text)
      → fold (with_value (shape_of it).rules) (at rows id position texts) more ≡ at rows id position (texts ++ more)
  walked_more texts [] = rw append-nil refl
  walked_more texts (text ∷ more) =
      rw takes.one (walked_more (texts ++ text ∷ []) more
      ∙ ap (at rows id position) (append_assoc texts (text ∷ []) more))

  passes_more : (texts more : List Text) → end_passes (shape_of it) (at rows id position (texts ++ more)).held ≡ true
      → line_passes (shape_of it) (at rows id position texts) more ≡ true
  passes_more texts [] ends = rw append-nil at ends
  passes_more texts (text ∷ more) ends =
      rw (takes.takes texts, takes.one texts text) (passes_more (texts ++ text ∷ []) more (rw append_assoc ends))

all_texts_pass : (texts : List Text) → list_all (λ text. accepts false vp.String text) texts ≡ true
all_texts_pass [] = refl
all_texts_pass (text ∷ texts) = all_texts_pass texts

-- ---- a race

race_rows : Text → Text → List Row
race_rows setup turns = (walk_after sub.Race (setup ∷ turns ∷ [] ∷ [])).held.rows

race_takes : (setup turns : Text) → TakesMore sub.Race (race_rows setup turns) (codes "SCRIPT") 3
unfolding clap_on_literals program shape_of at race_rows
race_takes setup turns = record {
  takes = λ texts. refl;
  one = λ texts text. refl;
  ends = λ script more short.
      and_from _ _ (rw (le-leb 1 (length (script ∷ more)) (omega arith), le-leb _ _ short, all_texts_pass more) refl)
      refl;
}

pub race_line : (words : List Text) (setup text : Text) (turns : ℕ) (scripts : List Text) → WritesCount text turns
    → 1 ≤ length scripts → length scripts ≤ usize_max → IsSubcommandLine (codes "race") (setup ∷ text ∷ scripts) words
    → IsTaken words (Race setup turns scripts)
unfolding clap_on_literals program shape_of at race_rows
race_line words setup text turns [] writes some short line = absurd (omega arith)
race_line words setup text turns (script ∷ more) writes some short line =
    let takes = race_takes setup text in
    taken_line sub.Race (setup ∷ text ∷ script ∷ more) words _ line
    (test_passes _ _ (accepts_count text turns line.1.1.0 writes)
    (passes_more sub.Race _ _ _ takes (script ∷ []) more (takes.ends script more short)))
    (λ asked is.
    let is = rw (walked_more sub.Race _ _ _ takes (script ∷ []) more) at is in
    is.2 ∙ ap (λ its. Race setup its (script ∷ more)) (is.1.1 turns writes))

-- ---- sessions

debug_rows : Text → List Row
debug_rows setup = (walk_after sub.Debug (setup ∷ [] ∷ [])).held.rows

debug_takes : (setup : Text) → TakesMore sub.Debug (debug_rows setup) (codes "SEAT") 2
unfolding clap_on_literals program shape_of at debug_rows
debug_takes setup = record {
  takes = λ texts. refl;
  one = λ texts text. refl;
  ends = λ seat more short.
      and_from _ _ (rw (le-leb 1 (length (seat ∷ more)) (omega arith), le-leb _ _ short, all_texts_pass more) refl)
      refl;
}

pub debug_line : (words : List Text) (setup : Text) (seats : List Text) → length seats ≤ usize_max
    → IsSubcommandLine (codes "debug") (setup ∷ seats) words → IsTaken words (Debug setup seats None None None)
unfolding clap_on_literals program shape_of at debug_rows
debug_line words setup [] short line = taken_line sub.Debug (setup ∷ []) words _ line refl (λ asked is. is)
debug_line words setup (seat ∷ more) short line =
    let takes = debug_takes setup in
    taken_line sub.Debug (setup ∷ seat ∷ more) words _ line
    (passes_more sub.Debug _ _ _ takes (seat ∷ []) more (takes.ends seat more short))
    (λ asked is. rw (walked_more sub.Debug _ _ _ takes (seat ∷ []) more) at is)

-- ---- The requests of command lines whose texts are no options.

line_taken : (words : List Text) (it : RequestView) → IsLine words it → IsTaken words it
unfolding clap_on_literals program shape_of
line_taken words Script (name, is) = rw is (record { taken = refl; only = λ asked is. is })
line_taken words (Race setup turns scripts) (text, writes, some, short, line) = race_line words setup text turns scripts writes some short line
line_taken words (Ask setup script question) (texts, writes, usual, line) = question_line words setup script question texts writes usual line
line_taken words (Debug setup seats None None None) (short, line) = debug_line words setup seats short line
line_taken words (Debug setup seats (Some from) journal page) line = absurd line
line_taken words (Debug setup seats None (Some journal) page) line = absurd line
line_taken words (Debug setup seats None None (Some page)) line = absurd line
line_taken words (Frames setup script folder columns step) line = absurd line
line_taken words (Search setup goal seed walks) (first, second, writes, more, line) =
    let a : AcceptsNumber first = accepts_number first seed line.1.1.1.0 writes in
    let b : AcceptsNumber second = accepts_number second walks line.1.1.1.1.0 more in
    taken_line sub.Search (setup ∷ goal ∷ first ∷ second ∷ []) words _ line (test_passes _ _ a (test_passes _ _ b refl))
    (λ asked is. is.4 ∙ ap₂ (λ seed walks. Search setup goal seed walks) (is.2.2 seed writes) (is.3.2 walks more))
line_taken words (Play setup script) line =
    taken_line sub.Play (setup ∷ script ∷ []) words _ line refl (λ asked is. is)
line_taken words (Replay setup journal) line =
    taken_line sub.Replay (setup ∷ journal ∷ []) words _ line refl (λ asked is. is)
line_taken words (Shrink setup script goal) line =
    taken_line sub.Shrink (setup ∷ script ∷ goal ∷ []) words _ line refl (λ asked is. is)
line_taken words (Same setup first second) line =
    taken_line sub.Same (setup ∷ first ∷ second ∷ []) words _ line refl (λ asked is. is)

-- a line of the table asks for what the table says
pub plain_asked : (words : List Text) (result : Result Request ArgumentsFault)
    → IfOk result (λ request. NamesAsked (subcommand_of program words) (asked_for request))
    → (takes program words ≡ true → IfErr result (λ fault. fault ≡ NoMemory no_memory)) → (it : RequestView) → IsLine words it → IsRequest result it
plain_asked words result ok taken it line =
    let its = line_taken words it line in (IfOk-weaker result _ _ (λ request names. its.only (asked_for request) names) ok, taken its.taken)
