-- Command lines whose texts are no options, and what each asks for.
use Rattle.std.specs.Prelude.{◌≡◌, ◌≢◌, ℕ, ◌≤◌, List, [], ◌∷◌, codes, length, Option, Some, None}
use Rattle.std.specs.List.{AllByRecursion}
use Rattle.std.specs.Str.Parse.{IsNumeral, digits_value, without_leading_plus}
use Rattle.clap.specs.Lexer.{usize_max}
use Rattle.cdb_base.specs.Limits.{COLUMNS, MAX_NUMBER, MAX_TURNS}
use Rattle.cdb_base.specs.Requests.{RequestView, Script, Play, Race, Ask, Frames, Debug}
use Rattle.cdb_base.specs.Requests.{Replay, Search, Shrink, Same, Text}
use Rattle.cdb_base.specs.declared.question.Question.{Question}
use Rattle.cdb_base.specs.declared.question.Question.TheVariants.{Explain, Trail, Draw, Slice, Clocks, Page}
use Rattle.cdb_base.specs.declared.question.StepAsked.{StepAsked}

-- a text that does not begin with a hyphen, so that it is no option
abbrev pub IsPlain : Text → Type 0
IsPlain [] = Unit {0}
IsPlain (first ∷ rest) = first ≢ 45

-- none of the texts is an option
abbrev pub ArePlain : List Text → Type 0
ArePlain = AllByRecursion IsPlain

-- the digits of a number, after a plus or not
abbrev pub AreDigitsOf : Text → ℕ → Type 0
AreDigitsOf text number =
    IsNumeral 10 (without_leading_plus text) × (digits_value 10 (without_leading_plus text) ≡ number)

-- a number of turns
abbrev pub WritesCount : Text → ℕ → Type 0
WritesCount text turns = AreDigitsOf text turns × (turns ≤ MAX_TURNS)

-- a number from 1 on
abbrev pub WritesNumber : Text → ℕ → Type 0
WritesNumber text number = AreDigitsOf text number × (1 ≤ number) × (number ≤ MAX_NUMBER)

-- the texts of a number, none where there is no number
abbrev pub WritesOption : List Text → Option ℕ → Type 0
WritesOption texts None = texts ≡ []
WritesOption texts (Some number) = (text : Text) × (texts ≡ text ∷ []) × WritesNumber text number

-- the texts of a step, none where there is none
abbrev pub WritesStep : List Text → Option StepAsked → Type 0
WritesStep texts None = texts ≡ []
WritesStep texts (Some step) =
    (text : Text) × (more : List Text) × (texts ≡ text ∷ more) × WritesNumber text step.p × WritesOption more step.k

-- the subcommand of a question
abbrev pub question_name : Question → Text
question_name (Explain step) = codes "explain"
question_name (Trail step) = codes "trail"
question_name (Draw columns step) = codes "draw"
question_name (Slice step) = codes "slice"
question_name Clocks = codes "clocks"
question_name Page = codes "page"

-- the step that it asks for, if it asks for one
abbrev pub step_asked : Question → Option StepAsked
step_asked (Explain step) = Some step
step_asked (Trail step) = Some step
step_asked (Draw columns step) = step
step_asked (Slice step) = step
step_asked Clocks = None
step_asked Page = None

-- a picture has 20 columns to a row
abbrev pub IsUsual : Question → Type 0
IsUsual (Draw columns step) = columns ≡ COLUMNS
IsUsual question = Unit {0}

-- the program's name, a subcommand, and these texts, none of which is an option
abbrev pub IsSubcommandLine : Text → List Text → List Text → Type 0
IsSubcommandLine command arguments words = ((name : Text) × (words ≡ name ∷ command ∷ arguments)) × ArePlain arguments

-- What the words of a line ask for. There are as many scripts and seats as a machine's word counts, and a race has one
-- script or more. A session whose journal is kept, that goes on from one, or of whose run there
-- is a page, has an option, and so have frames.
abbrev pub IsLine : List Text → RequestView → Type 0
IsLine words Script = (name : Text) × (words ≡ name ∷ [])
IsLine words (Play setup script) = IsSubcommandLine (codes "play") (setup ∷ script ∷ []) words
IsLine words (Race setup turns scripts) =
    (text : Text) × WritesCount text turns × (1 ≤ length scripts) × (length scripts ≤ usize_max)
    × IsSubcommandLine (codes "race") (setup ∷ text ∷ scripts) words
IsLine words (Ask setup script question) =
    (texts : List Text) × WritesStep texts (step_asked question) × IsUsual question
    × IsSubcommandLine (question_name question) (setup ∷ script ∷ texts) words
IsLine words (Debug setup seats None None None) =
    (length seats ≤ usize_max) × IsSubcommandLine (codes "debug") (setup ∷ seats) words
IsLine words (Debug setup seats (Some from) journal page) = ⊥
IsLine words (Debug setup seats None (Some journal) page) = ⊥
IsLine words (Debug setup seats None None (Some page)) = ⊥
IsLine words (Frames setup script folder columns step) = ⊥
IsLine words (Replay setup journal) = IsSubcommandLine (codes "replay") (setup ∷ journal ∷ []) words
IsLine words (Search setup goal seed walks) =
    (first second : Text) × WritesNumber first seed × WritesNumber second walks
    × IsSubcommandLine (codes "search") (setup ∷ goal ∷ first ∷ second ∷ []) words
IsLine words (Shrink setup script goal) = IsSubcommandLine (codes "shrink") (setup ∷ script ∷ goal ∷ []) words
IsLine words (Same setup first second) = IsSubcommandLine (codes "same") (setup ∷ first ∷ second ∷ []) words
