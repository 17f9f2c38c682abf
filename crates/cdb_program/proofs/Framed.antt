-- Frames are written one after the other.
use Rattle.std.proofs.Common.{◌≡◌, ◌∙◌, ℕ, ◌+◌, List, [], ◌∷◌, ◌++◌, Option, Some, None, map, refl, sym, ap, arith, append_assoc}
use Rattle.std.specs.Prelude.{option_map}
use Rattle.std.specs.List.{range_with_len}
use Rattle.std.proofs.lemmas.List.FromFn.{map-range_with_len_more}
use Rattle.cdb_program.specs.FrameFiles.{after_frames, file_of}
use Rattle.cdb_program.specs.Known.{FilesSeen, after_opening, after_writing}

abbrev Files : Type 0
Files = List (List ℕ × List ℕ)

more_written : (written : Option Files) (first second : Files)
    → option_map (λ before. before ++ second) (option_map (λ before. before ++ first) written) ≡ option_map (λ before. before ++ (first ++ second)) written
more_written None first second = refl
more_written (Some before) first second = ap (λ (l : Files). Some l) (append_assoc before first second)

-- after one more picture was written, one more of the frames stands
pub one_more_frame : (files now : FilesSeen) (folder : List ℕ) (pictures : List (List ℕ)) (k : ℕ) → now ≡ after_frames files folder pictures k
    → (later : FilesSeen) → later ≡ after_writing now (file_of folder pictures (k + 1) ∷ []) → later ≡ after_frames files folder pictures (k + 1)
one_more_frame files now folder pictures k before later wrote =
    let file = file_of folder pictures in
    let grown = map-range_with_len_more file 1 k (k + 1) (omega arith) in
    wrote ∙ ap (λ (f : FilesSeen). after_writing f (file (k + 1) ∷ [])) before
    ∙ ap (λ (w : Option Files). record (after_opening files (folder ∷ [])) { written = w })
    (more_written files.written (map file (range_with_len 1 k)) (file (k + 1) ∷ []))
    ∙ ap (λ (l : Files). after_writing (after_opening files (folder ∷ [])) l) (sym grown)
