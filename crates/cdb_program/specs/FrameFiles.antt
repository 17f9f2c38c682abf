-- What a request does that draws the frames of a script, each into a file of its own.
use Rattle.std.specs.Prelude.{◌≡◌, ◌⊎◌, ℕ, ◌-◌, ◌<◌, List, [], ◌∷◌, ◌++◌, codes, decimal, length}
use Rattle.std.specs.Prelude.{map, max, replicate, unwrap_or, Result, Ok, Err}
use Rattle.std.specs.List.{range_with_len}
use Rattle.cdb_agreement.specs.Algorithms.{rules}
use Rattle.cdb_base.specs.Positions.{nth}
use Rattle.cdb_draw.specs.Frames.{AreFramesOf, IsFaultOfFrames}
use Rattle.cdb_explain.specs.declared.fault.AnswerFault.{AnswerFault}
use Rattle.cdb_streams.specs.declared.buffer.OutputFault.{OutputFault}
use Rattle.cdb_streams.specs.declared.fault.PlayFault.TheVariants.{Read, Write, NoMemory}
use Rattle.cdb_streams.specs.declared.source.ReadFault.{ReadFault}
use Rattle.cdb_program.specs.Known.{FilesSeen, Seen, after_failing, after_opening, after_writing}
use Rattle.cdb_program.specs.Outcomes.{RequestEnd, IsOfAnswer}
use Rattle.cdb_program.specs.FilesRead.{CannotReadFiles, FailsToOpen, HasRead}
use Rattle.cdb_program.specs.declared.fault.Fault.TheVariants.{Play}

-- one folder is taken, by how that ended
abbrev pub TakesFolder : FilesSeen → FilesSeen → List ℕ → Result (Unit {0}) ReadFault → Type 0
TakesFolder old new name (Ok done) = new ≡ after_opening old (name ∷ [])
TakesFolder old new name (Err fault) = FailsToOpen old new name fault

-- one file is written whole, or not at all
abbrev pub WritesWhole : FilesSeen → FilesSeen → List ℕ → List ℕ → Result (Unit {0}) OutputFault → Type 0
WritesWhole old new name bytes (Ok done) = new ≡ after_writing old ((name, bytes) ∷ [])
WritesWhole old new name bytes (Err fault) = new ≡ old

-- ---- names that sort

-- a number with zeros before it, so that it has so many digits
abbrev pub padded : ℕ → ℕ → List ℕ
padded digits number = replicate (digits - length (decimal number)) 48 ++ decimal number

-- of so many frames, that of this number, from 1: all have as many digits, four at least
abbrev pub frame_name : List ℕ → ℕ → ℕ → List ℕ
frame_name folder count number = folder ++ codes "/" ++ padded (max 4 (length (decimal count))) number ++ codes ".svg"

-- the k-th picture is in the k-th file
abbrev pub file_of : List ℕ → List (List ℕ) → ℕ → List ℕ × List ℕ
file_of folder pictures k = (frame_name folder (length pictures) k, unwrap_or (nth pictures k) [])

-- ---- the folder, and its files

-- the folder was taken, and the first k pictures were written to it
abbrev pub after_frames : FilesSeen → List ℕ → List (List ℕ) → ℕ → FilesSeen
after_frames files folder pictures k =
    after_writing (after_opening files (folder ∷ [])) (map (file_of folder pictures) (range_with_len 1 k))

-- some were, and one could not be, or an allocation failed
abbrev pub WritesSome : FilesSeen → FilesSeen → List ℕ → List (List ℕ) → Type 0
WritesSome old new folder pictures = (k : ℕ) × (k < length pictures) × (new ≡ after_frames old folder pictures k)

-- All pictures are written, each to a file of its own; or the folder is refused; or the first ones are, each whole, and
-- no other.
abbrev pub WritesFrames : FilesSeen → FilesSeen → List ℕ → List (List ℕ) → RequestEnd → Type 0
WritesFrames old new folder pictures (Ok done) = new ≡ after_frames old folder pictures (length pictures)
WritesFrames old new folder pictures (Err (Play Read name)) =
    (name.now ≡ folder) × (new ≡ after_failing old (folder ∷ []))
WritesFrames old new folder pictures (Err (Play Write name)) = WritesSome old new folder pictures
WritesFrames old new folder pictures (Err (Play (NoMemory refused) name)) =
    (new ≡ old) ⊎ WritesSome old new folder pictures
WritesFrames old new folder pictures (Err fault) = ⊥

-- the bytes of a setup and of a script, of this name, and its frames are drawn; or there are none, and the folder is
-- not touched
abbrev pub FramesBytes : List ℕ → List ℕ → ℕ → List ℕ → List ℕ → FilesSeen → FilesSeen → RequestEnd → Type 0
FramesBytes name folder columns json script old new outcome =
    ((fault : AnswerFault) × IsOfAnswer name (Err fault) outcome
    × IsFaultOfFrames rules json script fault × (new ≡ old))
    ⊎ ((pictures : List (List ℕ)) × AreFramesOf rules json script columns pictures
    × WritesFrames old new folder pictures outcome)

-- the file of the setup and then that of the script are read, and the frames are drawn; nothing is written elsewhere
abbrev pub FramesFiles : List ℕ → List ℕ → List ℕ → ℕ → Seen → Seen → RequestEnd → Type 0
FramesFiles setup script folder columns old new outcome =
    (new.input ≡ old.input) × (new.output ≡ old.output)
    × (CannotReadFiles (setup ∷ script ∷ []) old new outcome
    ⊎ ((read : FilesSeen) × (json bytes : List ℕ) × HasRead old.files read (setup ∷ script ∷ []) (json ∷ bytes ∷ [])
    × FramesBytes script folder columns json bytes read new.files outcome))
