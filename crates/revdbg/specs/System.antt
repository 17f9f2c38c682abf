-- The edge to the system: what its errors tell, the names of seats, and what is said at a terminal.
use Rattle.std.specs.Prelude.{◌≡◌, ◌⊎◌, ◌==◌, ◌&&◌, ◌<◌, ℕ, Bool, List, [], length, codes, bytes_eq, if◌then◌else◌}
use Rattle.std.specs.Prelude.{Result, Ok, Err}
use Rattle.std.specs.List.{after_first, before_first, position_or_len}
use Rattle.std.specs.declared.io.ErrorKind.{ErrorKind}
use Rattle.std.specs.declared.io.ErrorKind.TheVariants as kind
use Rattle.cdb_base.specs.Memory.{no_memory}
use Rattle.cdb_streams.specs.declared.source.ReadFault.{ReadFault}
use Rattle.cdb_streams.specs.declared.source.ReadFault.TheVariants.{Failed, NoMemory}

-- the fault of a file that could not be opened for an error of this kind
abbrev pub read_fault_of : ErrorKind → ReadFault
read_fault_of kind.OutOfMemory = NoMemory no_memory
read_fault_of its = Failed

-- the path of what is read where this name is given: a hyphen is standard input
abbrev pub path_of : List ℕ → List ℕ
path_of name = if bytes_eq name (codes "-") then codes "/dev/stdin" else name

abbrev pub is_colon : ℕ → Bool
is_colon byte = byte == 58

abbrev pub HasColon : List ℕ → Type 0
HasColon name = position_or_len is_colon name < length name

-- the name of a seat in two: what it reads, before the first colon, and what it writes, behind that
abbrev pub IsPair : List ℕ → List ℕ → List ℕ → Type 0
IsPair name input output =
    HasColon name × (input ≡ before_first is_colon name) × (output ≡ after_first is_colon name)

-- the name is the seat's own, or that of what it reads or writes
abbrev pub IsOfSeat : List ℕ → List ℕ → Type 0
IsOfSeat seat name =
    (name ≡ seat)
    ⊎ (HasColon seat × ((name ≡ before_first is_colon seat) ⊎ (name ≡ after_first is_colon seat)))

-- how many arguments there are; none where they could not be read
abbrev pub count_of : {W E : Type 0} → (W → ℕ) → Result W E → ℕ
count_of count (Ok words) = count words
count_of count (Err error) = 0

-- what is said before a script is read from a terminal, as where the program's name is the only argument
abbrev pub hint_at : Bool → ℕ → List ℕ
hint_at is_terminal arguments =
    if is_terminal && arguments == 1
    then codes "reading a script up to the end of input; revdbg --help says what else there is\n"
    else []
