-- The number, the name and the text under which a fault of a line is shown.
use Rattle.std.specs.Prelude.{ℕ, List, ◌++◌, codes, decimal}
use Rattle.cdb_text.specs.declared.fault.LineFault.{LineFault}
use Rattle.cdb_text.specs.declared.fault.LineFault.TheVariants.{Empty, Word, Number, Extra, Missing}

abbrev pub line_fault_number : LineFault → ℕ
line_fault_number Empty = 1
line_fault_number Word = 2
line_fault_number Number = 3
line_fault_number Extra = 4
line_fault_number Missing = 5

abbrev pub line_fault_name : LineFault → List ℕ
line_fault_name Empty = codes "Empty"
line_fault_name Word = codes "Word"
line_fault_name Number = codes "Number"
line_fault_name Extra = codes "Extra"
line_fault_name Missing = codes "Missing"

-- `fault N Name`
abbrev pub line_fault_text : LineFault → List ℕ
line_fault_text fault = codes "fault " ++ decimal (line_fault_number fault) ++ codes " " ++ line_fault_name fault
