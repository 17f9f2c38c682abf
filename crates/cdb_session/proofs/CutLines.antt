-- The lines of bytes, and what they ask for.
use Rattle.std.proofs.lemmas.Grind.{common_steps}
use Rattle.std.proofs.lemmas.Option.{gets}
use Rattle.std.proofs.Common.{◌≡◌, ℕ, ◌+◌, ◌-◌, ◌≤◌, min, List, ◌++◌, length, take, sym, ap, ◌∙◌, arith, ◌<◌, Bool, [], ◌∷◌, nat_eq, refl, append_assoc}
use Rattle.std.proofs.Common.{length-append, ◌≢◌, inl, inr, nat_lt, rules, true, subst}
use Rattle.std.proofs.Math.Seq.{take-append-add}
use Rattle.std.specs.List.{AllByRecursion, slice_split, AllZip}
use Rattle.std.proofs.lemmas.List.Splits.{slice_split_none, slice_split_at, length-slice_split}
use Rattle.cdb_base.specs.Positions.{without_last}
use Rattle.cdb_streams.specs.Lines.{without_empty_end, lines_of}
use Rattle.cdb_session.specs.Unfinished.{with_ends, unfinished_of}
use Rattle.cdb_session.specs.Requests.{HasNoEnd, ended_lines, Asks, AsksFor, IsQuit, HaveQuit, quit_line, up_to_quit}
use Rattle.std.specs.Str.{bytes_eq}
use Rattle.std.proofs.lemmas.Bool.{cases_Bool, cases_lt}
use Rattle.std.proofs.lemmas.Bool.Decides.{nat_tests}
use Rattle.std.proofs.lemmas.List.{length-take, take_all}
use Rattle.std.proofs.lemmas.Slice.Eq.{bytes_eq-Decides}
use Rattle.cdb_setup.specs.Format.{longest}
use Rattle.cdb_session.specs.Typed.{line_meant}
use Rattle.cdb_session.proofs.OneRequest.{only_own, only_too_long, own_reads}
use Rattle.cdb_session.specs.Exchanges.{Exchange}
use Rattle.cdb_session.specs.declared.request.Request.TheVariants.{Quit, TooLong}

-- ---- how much of a line is held

-- as many as there are are all
take_min : {A : Type 0} (n : ℕ) (xs : List A) → take (min (length xs) n) xs ≡ take n xs
take_min n xs = grind (arith, common_steps, gets)

-- as much more as there is room for is the beginning of all
pub fill : (most count : ℕ) (unfinished bytes : List ℕ) → length unfinished ≤ most
    → count ≡ min (length bytes) (most - length unfinished) → unfinished ++ take count bytes ≡ take most (unfinished ++ bytes)
fill most count unfinished bytes room is =
    let whole : length unfinished + (most - length unfinished) ≡ most = omega (arith, room) in
    ap (λ n. unfinished ++ take n bytes) is ∙ ap (λ more. unfinished ++ more) (take_min (most - length unfinished) bytes)
    ∙ sym (take-append-add unfinished bytes (most - length unfinished)) ∙ ap (λ n. take n (unfinished ++ bytes)) whole

-- a beginning and more have the same beginning as all and more
pub take-take_append : {A : Type 0} (most : ℕ) (xs ys : List A) → take most (take most xs ++ ys) ≡ take most (xs ++ ys)
take-take_append most xs ys = grind (arith, common_steps, gets)

-- ---- the lines of bytes that are known as lines and a rest

abbrev pub ends_line : ℕ → Bool
ends_line byte = nat_eq byte 10

-- the lines are cut off one after the other
pub cut_joined : (lines : List (List ℕ)) (rest : List ℕ) → AllByRecursion HasNoEnd lines
    → slice_split ends_line (with_ends lines ++ rest) ≡ lines ++ slice_split ends_line rest
cut_joined [] rest none = refl
cut_joined (line ∷ lines) rest none =
    ap (slice_split ends_line) (append_assoc (line ++ 10 ∷ []) (with_ends lines) rest ∙ append_assoc line (10 ∷ []) (with_ends lines ++ rest))
    ∙ slice_split_at ends_line line 10 (with_ends lines ++ rest) none.0 refl
    ∙ ap (λ parts. line ∷ parts) (cut_joined lines rest none.1)

-- all but the last of these parts
without_last-append : (lines : List (List ℕ)) (line : List ℕ) → without_last (lines ++ line ∷ []) ≡ lines
without_last-append lines line = grind (arith, common_steps, gets)

-- the lines that have ended are these, where what follows has no end
pub ended_of_joined : (lines : List (List ℕ)) (line : List ℕ) → AllByRecursion HasNoEnd lines → HasNoEnd line → ended_lines (with_ends lines ++ line) ≡ lines
unfolding ended_lines
ended_of_joined lines line ended unended =
    ap without_last (cut_joined lines line ended ∙ ap (λ parts. lines ++ parts) (slice_split_none ends_line line unended)) ∙ without_last-append lines line

-- what follows may end further lines
pub ended_and_more : (lines : List (List ℕ)) (rest : List ℕ) → AllByRecursion HasNoEnd lines → ended_lines (with_ends lines ++ rest) ≡ lines ++ ended_lines rest
unfolding ended_lines
ended_and_more lines rest ended =
    let parts = slice_split ends_line rest in
    let many : length (lines ++ parts) - 1 ≡ length lines + (length parts - 1) = omega (arith, length-append lines parts, length-slice_split ends_line rest) in
    ap without_last (cut_joined lines rest ended) ∙ ap (λ n. take n (lines ++ parts)) many ∙ take-append-add lines parts (length parts - 1)

before_parts : (lines parts : List (List ℕ)) → 0 < length parts → without_empty_end (lines ++ parts) ≡ lines ++ without_empty_end parts
before_parts [] parts some = refl
before_parts ((byte ∷ line) ∷ lines) parts some = ap (λ others. (byte ∷ line) ∷ others) (before_parts lines parts some)
before_parts ([] ∷ []) [] some = absurd (omega arith)
before_parts ([] ∷ []) (part ∷ parts) some = refl
before_parts ([] ∷ (line ∷ lines)) parts some = ap (λ others. [] ∷ others) (before_parts (line ∷ lines) parts some)

-- the lines begin with those that have ended
pub lines_of_joined : (lines : List (List ℕ)) (rest : List ℕ) → AllByRecursion HasNoEnd lines → lines_of (with_ends lines ++ rest) ≡ lines ++ lines_of rest
unfolding lines_of
lines_of_joined lines rest ended =
    ap without_empty_end (cut_joined lines rest ended) ∙ before_parts lines (slice_split ends_line rest) (omega (arith, length-slice_split ends_line rest))

-- what has no end is one line, where it is not empty
pub one_unended : (line : List ℕ) → 0 < length line → HasNoEnd line → lines_of line ≡ line ∷ []
unfolding lines_of
one_unended [] some none = absurd (omega arith)
one_unended (byte ∷ line) some none = ap without_empty_end (slice_split_none ends_line (byte ∷ line) none)

pub with_ends-append : (lines : List (List ℕ)) (line : List ℕ) → with_ends (lines ++ line ∷ []) ≡ with_ends lines ++ (line ++ 10 ∷ [])
with_ends-append lines line = grind (arith, common_steps, gets)

pub lines_of_none : lines_of [] ≡ []
unfolding lines_of
lines_of_none = refl

-- ---- what lines ask for

-- a line that is too long stands for itself
meant_long : (line : List ℕ) → longest < length line → line_meant line ≡ line
unfolding line_meant
meant_long line long = let yes : nat_lt longest (length line) ≡ true = search (rules, nat_tests, long) in rw yes refl

-- what is held of a line asks for the same as the line
pub asks_whole : (exchange : Exchange) (line : List ℕ) → Asks exchange (unfinished_of line) → Asks exchange line
asks_whole (request, answer) line asks =
    let held : List ℕ = unfinished_of line in
    elim (cases_lt longest (length held)) [
      | inl long ↦
          let whole : longest < length line = omega (arith, long, length-take (longest + 1) line) in
          let too_long : request ≡ TooLong = only_too_long held long request (subst (AsksFor request) (meant_long held long) asks) in
          subst (λ r. AsksFor r (line_meant line)) (sym too_long) (subst (λ meant. longest < length meant) (sym (meant_long line whole)) whole)
      | inr few ↦ subst (Asks (request, answer)) (take_all (longest + 1) line (omega (arith, few, length-take (longest + 1) line))) asks
    ]

-- a line that asks for something else is not `quit`
pub is_not_quit : (exchange : Exchange) (line : List ℕ) → Asks exchange line → exchange.0 ≢ Quit → ¬ IsQuit line
is_not_quit exchange line asks other is =
    let meant = line_meant line in
    other (only_own meant (omega (arith, ap length is)) Quit (own_reads Quit meant is) exchange.0 asks)

-- ---- lines one after the other

abbrev pub AreOthers : List (List ℕ) → Type 0
AreOthers lines = AllByRecursion (λ line. ¬ IsQuit line) lines

pub AllZip-more : (exchanges : List Exchange) (lines : List (List ℕ)) (exchange : Exchange) (line : List ℕ)
    → AllZip Asks exchanges lines → Asks exchange line → AllZip Asks (exchanges ++ exchange ∷ []) (lines ++ line ∷ [])
AllZip-more [] [] exchange line are is = (is, tt)
AllZip-more (other ∷ exchanges) (other_line ∷ lines) exchange line are is = (are.0, AllZip-more exchanges lines exchange line are.1 is)
AllZip-more others lines exchange line are is = absurd are

-- none of these lines is `quit`, so the lines up to `quit` begin with them
pub up_to_quit-append : (lines others : List (List ℕ)) → AreOthers lines → up_to_quit (lines ++ others) ≡ lines ++ up_to_quit others
up_to_quit-append [] others are = refl
up_to_quit-append (line ∷ lines) others are =
    elim (cases_Bool (bytes_eq (line_meant line) quit_line)) [
      | inl is ↦ absurd (are.0 ((bytes_eq-Decides (line_meant line) quit_line).0 is))
      | inr other ↦ rw other (ap (λ cut. line ∷ cut) (up_to_quit-append lines others are.1))
    ]

-- the lines end at `quit`
pub up_to_quit-quit : (line : List ℕ) (others : List (List ℕ)) → IsQuit line → up_to_quit (line ∷ others) ≡ line ∷ []
up_to_quit-quit line others is = grind (arith, common_steps, gets)

-- one line alone, whatever it is
pub up_to_quit-one : (line : List ℕ) → up_to_quit (line ∷ []) ≡ line ∷ []
up_to_quit-one line = grind (arith, common_steps, gets)

pub have_none : (lines : List (List ℕ)) → AreOthers lines → ¬ HaveQuit lines
have_none [] are ([], others, quit, e, is) = absurd (omega (arith, ap length e))
have_none [] are ((first ∷ before), others, quit, e, is) = absurd (omega (arith, ap length e))
have_none (line ∷ lines) are ([], others, quit, e, is) = are.0 (let same : quit ≡ line = cc in subst IsQuit same is)
have_none (line ∷ lines) are ((first ∷ before), others, quit, e, is) = have_none lines are.1 (before, others, quit, cc, is)
