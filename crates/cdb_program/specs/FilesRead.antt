-- Reading files.
use Rattle.std.specs.Prelude.{◌≡◌, ◌⊎◌, ℕ, ◌≤◌, List, [], ◌∷◌, ◌++◌, length, take, Some, Result, Ok, Err, Vec}
use Rattle.std.specs.Global.{Global}
use Rattle.std.specs.List.{AllZip}
use Rattle.cdb_play.specs.Races.{bytes_of}
use Rattle.cdb_streams.specs.declared.fault.PlayFault.TheVariants.{Read, NoMemory}
use Rattle.cdb_streams.specs.declared.source.ReadFault.{ReadFault}
use Rattle.cdb_streams.specs.declared.source.ReadFault.TheVariants as reading
use Rattle.cdb_program.specs.Known.{FilesSeen, Seen, content_of, after_opening, after_failing}
use Rattle.cdb_program.specs.Outcomes.{RequestEnd}
use Rattle.cdb_program.specs.declared.fault.Fault.{Fault}
use Rattle.cdb_program.specs.declared.fault.Fault.TheVariants.{Play}

-- how many bytes of a file are read: one more than a setup or a script may have
abbrev pub most_read : ℕ
most_read = 1048577

-- this many bytes at most, and the file's first ones where its bytes are known
abbrev pub AreFirstBytes : FilesSeen → ℕ → List ℕ → List ℕ → Type 0
AreFirstBytes files most name bytes =
    (length bytes ≤ most) × ((content : List ℕ) → content_of files name ≡ Some content → bytes ≡ take most content)

-- What this names, a file, a folder or a seat, could not be opened. Where an allocation failed it counts as not opened.
abbrev pub FailsToOpen : FilesSeen → FilesSeen → List ℕ → ReadFault → Type 0
FailsToOpen old new name reading.Failed = new ≡ after_failing old (name ∷ [])
FailsToOpen old new name (reading.NoMemory refused) = new ≡ old

-- or it was opened, and this holds of what that gave
abbrev pub Opens : {A : Type 0} → (A → Type 0) → FilesSeen → FilesSeen → List ℕ → Result A ReadFault → Type 0
Opens Is old new name (Ok it) = (new ≡ after_opening old (name ∷ [])) × Is it
Opens Is old new name (Err fault) = FailsToOpen old new name fault

-- these files were read, one after the other and no others, and gave these bytes
abbrev pub HasRead : FilesSeen → FilesSeen → List (List ℕ) → List (List ℕ) → Type 0
HasRead old new names contents = (new ≡ after_opening old names) × AllZip (AreFirstBytes old most_read) names contents

-- Files of these names were to be read in this order: the one that the fault names could not be, and those after it
-- were not opened; or an allocation failed after some of them
abbrev pub FailsToRead : FilesSeen → FilesSeen → List (List ℕ) → Fault → Type 0
FailsToRead old new names (Play Read name) =
    (good rest : List (List ℕ)) × (names ≡ good ++ name.now ∷ rest) × (new ≡ after_failing old (good ++ name.now ∷ []))
FailsToRead old new names (Play (NoMemory refused) name) =
    (good rest : List (List ℕ)) × (names ≡ good ++ rest) × (new ≡ after_opening old good)
FailsToRead old new names other = ⊥

-- or all were opened, in this order, and this holds of what that gave
abbrev pub OpensAll : {A : Type 0} → (A → Type 0) → FilesSeen → FilesSeen → List (List ℕ) → Result A Fault → Type 0
OpensAll Is old new names (Ok it) = (new ≡ after_opening old names) × Is it
OpensAll Is old new names (Err fault) = FailsToRead old new names fault

-- the bytes of one file, of two, of three, and of many
abbrev pub single : Vec ℕ Global → List (List ℕ)
single bytes = bytes.items ∷ []

abbrev pub both : Vec ℕ Global × Vec ℕ Global → List (List ℕ)
both two = two.0.items ∷ two.1.items ∷ []

abbrev pub three : Vec ℕ Global × Vec ℕ Global × Vec ℕ Global → List (List ℕ)
three all = all.0.items ∷ all.1.items ∷ all.2.items ∷ []

abbrev pub many : Vec (Vec ℕ Global) Global → List (List ℕ)
many contents = bytes_of contents.items

-- files of these names were read and gave these bytes, or one could not be
abbrev pub Reads : {A : Type 0} → (A → List (List ℕ)) → FilesSeen → FilesSeen → List (List ℕ) → Result A Fault → Type 0
Reads given old new names = OpensAll (λ read. AllZip (AreFirstBytes old most_read) names (given read)) old new names

-- files of these names could not all be read, and so nothing was written
abbrev pub CannotReadFiles : List (List ℕ) → Seen → Seen → RequestEnd → Type 0
CannotReadFiles names old new (Ok done) = ⊥
CannotReadFiles names old new (Err fault) = FailsToRead old.files new.files names fault × (new.output ≡ old.output)

-- Files of these names are read, in order, and then this is done with their bytes. Where one can't be read it is not
-- done. Standard input is left as it is.
abbrev pub ReadsThen : List (List ℕ) → Seen → Seen → RequestEnd → (List (List ℕ) → Type 0) → Type 0
ReadsThen names old new outcome IsDone =
    (new.input ≡ old.input)
    × (CannotReadFiles names old new outcome
    ⊎ ((contents : List (List ℕ)) × HasRead old.files new.files names contents × IsDone contents))
