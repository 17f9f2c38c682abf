-- What a line asks of the run as it stands.
use Rattle.std.specs.Prelude.{◌≡◌, ℕ, ◌&&◌, ◌||◌, Bool, true, not, nat_le, List, [], ◌∷◌, length, codes, map}
use Rattle.std.specs.Prelude.{Option, None, Some}
use Rattle.std.specs.List.{AllByRecursion, list_any}
use Rattle.cdb_base.specs.declared.question.StepAsked.{StepAsked}
use Rattle.cdb_text.specs.Commands.{CommandPart, number}
use Rattle.cdb_text.specs.Grammar.{IsInRange, part_text, words_of}
use Rattle.cdb_session.specs.declared.inquiry.Inquiry.{Inquiry}
use Rattle.cdb_session.specs.declared.inquiry.Inquiry.TheVariants.{Explain, Trail, Draw}
use Rattle.cdb_session.specs.Typed.{is_blank, is_comment, is_digits, is_name, is_word}

-- the numbers that name a step: P, or P and K
abbrev pub numbers_of : ℕ → Option ℕ → List CommandPart
numbers_of p None = number p ∷ []
numbers_of p (Some k) = number p ∷ number k ∷ []

-- the words are those numbers, which are in range, as in the line of a command
pub record AreStepWords (step : StepAsked) (words : List (List ℕ)) : Type 0 where
  pub are : words ≡ map part_text (numbers_of step.p step.k)
  pub in_range : AllByRecursion IsInRange (numbers_of step.p step.k)

-- those, or none
abbrev pub AreAnyStepWords : Option StepAsked → List (List ℕ) → Type 0
AreAnyStepWords None words = words ≡ []
AreAnyStepWords (Some step) words = AreStepWords step words

-- what stands for something else in a line as it is typed: a comment, a number, or a name as it is printed
abbrev pub has_other_meaning : List ℕ → Bool
has_other_meaning word = is_comment word || (is_digits word || is_name word)

-- at most 4,095 bytes, none of them a blank
abbrev pub is_one_piece : List ℕ → Bool
is_one_piece word = nat_le (length word) 4095 && not (list_any is_blank word)

-- a word that names a file, and stands for nothing else
abbrev pub is_file_name : List ℕ → Bool
is_file_name word = is_word word && (is_one_piece word && not (has_other_meaning word))

-- `explain P [K]`, `trail P [K]`, or `draw FILE [P [K]]`
abbrev pub AreInquiryWords : Inquiry → List (List ℕ) → Type 0
AreInquiryWords (Explain step) (word ∷ others) = (word ≡ codes "explain") × AreStepWords step others
AreInquiryWords (Trail step) (word ∷ others) = (word ≡ codes "trail") × AreStepWords step others
AreInquiryWords (Draw name step) (word ∷ file ∷ others) =
    (word ≡ codes "draw") × (file ≡ name) × (is_file_name name ≡ true) × AreAnyStepWords step others
AreInquiryWords inquiry words = ⊥

-- the line asks that
abbrev pub IsInquiryLine : Inquiry → List ℕ → Type 0
IsInquiryLine inquiry line = AreInquiryWords inquiry (words_of line)
