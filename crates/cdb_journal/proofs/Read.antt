-- A journal that is under way of being read.
use Rattle.std.proofs.Common.{◌≡◌, ℕ, ◌+◌, List, [], ◌∷◌, ◌++◌, length, refl, sym, ap, ◌∙◌, append_assoc, append-nil, arith, length-append}
use Rattle.cdb_control.specs.declared.control.Entry.{Entry}
use Rattle.cdb_text.specs.Entries.{IsEntryLine}
use Rattle.cdb_streams.specs.Lines.{lines_of}
use Rattle.cdb_streams.proofs.CutLines.{no_lines}
use Rattle.cdb_journal.specs.Journals.{AreEntriesOf}

-- the lines read so far are those of the entries, and what is left has the others
pub record IsUnderWay (text : List ℕ) (entries : List Entry) (rest : List ℕ) : Type 0 where
  pub read : List (List ℕ)
  pub whole : lines_of text ≡ read ++ lines_of rest
  pub entries_are : AreEntriesOf entries read
  pub so_many : length entries ≡ length read

one_more : (entries : List Entry) (lines : List (List ℕ)) (e : Entry) (line : List ℕ) → AreEntriesOf entries lines
    → IsEntryLine e.seat e.command line → AreEntriesOf (entries ++ e ∷ []) (lines ++ line ∷ [])
one_more [] [] e line are is = (is, tt)
one_more (other ∷ entries) (other_line ∷ lines) e line are is = (are.0, one_more entries lines e line are.1 is)
one_more entries lines e line are is = absurd are

nothing_left : (rest : List ℕ) → length rest ≡ 0 → rest ≡ []
nothing_left [] none = refl
nothing_left (x ∷ xs) none = absurd (omega arith)

pub no_lines_left : (rest : List ℕ) → length rest ≡ 0 → length (lines_of rest) ≡ 0
no_lines_left rest none = rw (nothing_left rest none, no_lines) refl

module _ (text : List ℕ) (entries : List Entry) (rest line behind : List ℕ)
    (u : IsUnderWay text entries rest) (cut : lines_of rest ≡ line ∷ lines_of behind) where
  split : lines_of text ≡ u.read ++ (line ∷ lines_of behind)
  split = u.whole ∙ ap (λ lines. u.read ++ lines) cut

  pub one_line : (e : Entry) → IsEntryLine e.seat e.command line → IsUnderWay text (entries ++ e ∷ []) behind
  one_line e is =
      record {
        read = u.read ++ line ∷ [];
        whole = split ∙ sym (append_assoc u.read (line ∷ []) (lines_of behind));
        entries_are = one_more entries u.read e line u.entries_are is;
        so_many = omega (arith, u.so_many, length-append entries (e ∷ []), length-append u.read (line ∷ []));
      }

pub ended : (text : List ℕ) (entries : List Entry) (rest : List ℕ) → IsUnderWay text entries rest → length rest ≡ 0 → AreEntriesOf entries (lines_of text)
ended text entries rest u none =
    rw (u.whole, nothing_left rest none, no_lines, append-nil) u.entries_are
