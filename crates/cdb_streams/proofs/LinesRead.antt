-- A script that is under way of being read.
use Rattle.std.proofs.Common.{◌≡◌, ◌≢◌, ℕ, ◌+◌, ◌*◌, ◌<◌, ◌≤◌, List, [], ◌∷◌, ◌++◌, length, refl, sym, ap, ◌∙◌, append_assoc, append-nil, arith, length-append}
use Rattle.cdb_commands.specs.declared.command.Command.{Command}
use Rattle.cdb_text.specs.declared.fault.LineFault.{LineFault}
use Rattle.cdb_text.specs.Grammar.{IsLineOf}
use Rattle.cdb_text.specs.Faults.{IsFaultOf}
use Rattle.cdb_streams.specs.Lines.{lines_of}
use Rattle.cdb_streams.specs.Scripts.{AreCommandsOf, IsFirstBadLine}
use Rattle.cdb_streams.proofs.CutLines.{no_lines}

-- the lines read so far are those of the commands, and what is left has the others
pub record IsUnderWay (script : List ℕ) (commands : List Command) (rest : List ℕ) : Type 0 where
  pub read : List (List ℕ)
  pub whole : lines_of script ≡ read ++ lines_of rest
  pub commands_are : AreCommandsOf commands read
  pub so_many : length commands ≡ length read
  pub few : 2 * length commands + length rest ≤ length script + 1
  pub fewer : 0 < length rest → 2 * length commands + length rest ≤ length script

pub begun : (script : List ℕ) → IsUnderWay script [] script
begun script = record { read = []; whole = refl; commands_are = tt; so_many = refl; few = omega arith; fewer = λ some. omega arith }

one_more : (commands : List Command) (lines : List (List ℕ)) (command : Command) (line : List ℕ)
    → AreCommandsOf commands lines → IsLineOf command line → AreCommandsOf (commands ++ command ∷ []) (lines ++ line ∷ [])
one_more [] [] command line are is = (is, tt)
one_more [] (other ∷ lines) command line are is = absurd are
one_more (other ∷ commands) [] command line are is = absurd are
one_more (other ∷ commands) (other_line ∷ lines) command line are is = (are.0, one_more commands lines command line are.1 is)

module _ (script : List ℕ) (commands : List Command) (rest line behind : List ℕ)
    (u : IsUnderWay script commands rest) (cut : lines_of rest ≡ line ∷ lines_of behind) where
  split : lines_of script ≡ u.read ++ (line ∷ lines_of behind)
  split = u.whole ∙ ap (λ lines. u.read ++ lines) cut

  pub one_line : (command : Command) → IsLineOf command line → 0 < length line → 0 < length rest → length line + length behind ≤ length rest
      → (behind ≢ [] → length line + length behind < length rest) → IsUnderWay script (commands ++ command ∷ []) behind
  one_line command is some left shorter newline =
      record {
        read = u.read ++ line ∷ [];
        whole = split ∙ sym (append_assoc u.read (line ∷ []) (lines_of behind));
        commands_are = one_more commands u.read command line u.commands_are is;
        so_many = omega (arith, u.so_many, length-append commands (command ∷ []), length-append u.read (line ∷ []));
        few = omega (arith, u.fewer left, length-append commands (command ∷ []));
        fewer =
            λ more. let strict = newline (λ none. absurd (omega (arith, more, ap length none))) in
            omega (arith, u.fewer left, length-append commands (command ∷ []), strict);
      }

  pub bad_line : (fault : LineFault) → IsFaultOf fault line → IsFirstBadLine (length commands + 1) fault (lines_of script)
  bad_line fault is = (commands, u.read, line, lines_of behind, split, omega (arith, u.so_many), u.commands_are, is)

empty : {A : Type 0} (xs : List A) → length xs ≡ 0 → xs ≡ []
empty [] e = refl
empty (x ∷ xs) e = absurd (omega (arith, e))

pub not_empty : {A : Type 0} (xs : List A) → xs ≢ [] → 0 < length xs
not_empty [] some = absurd (some refl)
not_empty (x ∷ xs) some = omega arith

pub ended : (script : List ℕ) (commands : List Command) (rest : List ℕ)
    → IsUnderWay script commands rest → length rest ≡ 0 → AreCommandsOf commands (lines_of script)
ended script commands rest u none =
    rw (u.whole ∙ ap (λ r. u.read ++ lines_of r) (empty rest none) ∙ ap (λ lines. u.read ++ lines) no_lines ∙ append-nil u.read) u.commands_are
