-- Which line a line stands for, as it is typed.
use Rattle.std.specs.Prelude.{ℕ, ◌==◌, ◌||◌, ◌&&◌, Bool, false, not, nat_eq, nat_lt, List, []}
use Rattle.std.specs.Prelude.{◌∷◌, ◌++◌, length, codes, filter, fold, map, if◌then◌else◌}
use Rattle.std.specs.List.{list_all, slice_split, join_with_byte, starts_with, before_first, after_first}
use Rattle.std.specs.Str.{bytes_eq}
use Rattle.std.specs.Char.{is_ascii_digit}
use Rattle.cdb_setup.specs.Format.{longest}
use Rattle.cdb_session.specs.Topics.{topic_word, topics}

-- ---- the pieces of a line

-- a space, a tab, or a carriage return
abbrev pub is_blank : ℕ → Bool
is_blank byte = byte == 32 || (byte == 9 || byte == 13)

-- a piece that begins with `#` begins a comment
abbrev pub is_comment : List ℕ → Bool
is_comment [] = false
is_comment (byte ∷ bytes) = byte == 35

abbrev pub up_to_comment : List (List ℕ) → List (List ℕ)
up_to_comment [] = []
up_to_comment (piece ∷ pieces) = if is_comment piece then [] else (piece ∷ up_to_comment pieces)

abbrev pub pieces_of : List ℕ → List (List ℕ)
pieces_of line = up_to_comment (slice_split is_blank line)

-- ---- the words of a piece

-- what stands between the two numbers of a name as it is printed, `2.9` or `1#1`
abbrev pub is_mark : ℕ → Bool
is_mark byte = byte == 46 || byte == 35

abbrev pub is_digits : List ℕ → Bool
is_digits word = nat_lt 0 (length word) && list_all is_ascii_digit word

-- such a name is its two numbers, and each other piece is a word
abbrev pub is_name : List ℕ → Bool
is_name piece = is_digits (before_first is_mark piece) && is_digits (after_first is_mark piece)

abbrev pub parts_of : List ℕ → List (List ℕ)
parts_of piece =
    if is_name piece
    then (before_first is_mark piece ∷ after_first is_mark piece ∷ [])
    else (piece ∷ [])

-- a piece without bytes is no word, nor is `to`, as in `lost 1#1 to 2`
abbrev pub is_word : List ℕ → Bool
is_word word = not (length word == 0 || bytes_eq word (codes "to"))

-- ---- words cut short

-- the words that may begin a line
abbrev pub first_words : List (List ℕ)
first_words = map topic_word topics

-- the words that may follow this one at once
abbrev pub second_words : List ℕ → List (List ℕ)
second_words first =
    if bytes_eq first (codes "break") then (codes "decide" ∷ codes "round" ∷ codes "recv" ∷ codes "write" ∷ []) else
    (if bytes_eq first (codes "show") then (codes "regs" ∷ codes "mail" ∷ codes "history" ∷ []) else
    (if bytes_eq first (codes "undo") || (bytes_eq first (codes "rollback") || bytes_eq first (codes "why"))
    then (codes "lost" ∷ [])
    else (if bytes_eq first (codes "help") then first_words else [])))

-- what a process may be told to do
abbrev pub acts : List (List ℕ)
acts = codes "go" ∷ codes "learn" ∷ codes "crash" ∷ codes "query" ∷ codes "recv" ∷ []

-- the words that may follow these
abbrev pub due : List (List ℕ) → List (List ℕ)
due [] = first_words
due (first ∷ []) = second_words first
due (first ∷ second ∷ []) = if bytes_eq first (codes "step") then acts else []
due (first ∷ second ∷ third ∷ more) = []

-- the only one of them, if there is one only; else the word
abbrev pub only : List (List ℕ) → List ℕ → List ℕ
only (option ∷ []) word = option
only options word = word

-- the one that begins with the word, where no other of them does; else the word
abbrev pub full : List (List ℕ) → List ℕ → List ℕ
full options word = only (filter (λ option. starts_with nat_eq option word) options) word

-- ---- the line

abbrev pub with_word : List (List ℕ) → List ℕ → List (List ℕ)
with_word words word = if is_word word then (words ++ full (due words) word ∷ []) else words

abbrev pub with_piece : List (List ℕ) → List ℕ → List (List ℕ)
with_piece words piece = fold with_word words (parts_of piece)

-- the words that a line stands for: each is the full one of those that may follow the words before it
unfoldable pub words_meant : List ℕ → List (List ℕ)
words_meant line = fold with_piece [] (pieces_of line)

-- the line that a line stands for: these words, with one space between each two; one that is too long, itself
unfoldable pub line_meant : List ℕ → List ℕ
line_meant line = if nat_lt longest (length line) then line else join_with_byte 32 (words_meant line)
