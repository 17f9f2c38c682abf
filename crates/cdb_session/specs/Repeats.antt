-- A command that a line gives several times.
use Rattle.std.specs.Prelude.{◌≡◌, ℕ, zero, suc, List, [], ◌∷◌, map, MatchBool}
use Rattle.std.specs.List.{AllByRecursion}
use Rattle.cdb_commands.specs.ReplyView.{ReplyView, is_refused}
use Rattle.cdb_text.specs.Commands.{CommandPart, fixed, number}
use Rattle.cdb_text.specs.Grammar.{IsInRange, part_text, words_of}

-- `auto P N`
abbrev pub repeat_parts : ℕ → ℕ → List CommandPart
repeat_parts p times = fixed "auto" ∷ number p ∷ number times ∷ []

abbrev pub IsRepeatLine : ℕ → ℕ → List ℕ → Type 0
IsRepeatLine p times line =
    (words_of line ≡ map part_text (repeat_parts p times)) × AllByRecursion IsInRange (repeat_parts p times)

-- All replies to a command that a line gives this many times at most: until it is refused, or until the journal is
-- full.
abbrev pub AreAllReplies : Type 0 → ℕ → List ReplyView → Type 0
AreAllReplies Full zero got = got ≡ []
AreAllReplies Full (suc times) [] = Full
AreAllReplies Full (suc times) (reply ∷ got) =
    MatchBool (is_refused reply) (got ≡ []) (AreAllReplies Full times got)
