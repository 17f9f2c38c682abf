-- The texts of faults of a control.
use Rattle.std.specs.Prelude.{ℕ, List, codes}
use Rattle.cdb_control.specs.declared.control.CallFault.{CallFault}
use Rattle.cdb_control.specs.declared.control.CallFault.TheVariants as call
use Rattle.cdb_control.specs.declared.control.OpenFault.{OpenFault}
use Rattle.cdb_control.specs.declared.control.OpenFault.TheVariants as open_fault

abbrev pub call_fault_text : CallFault → List ℕ
call_fault_text call.JournalFull = codes "journal full"
call_fault_text (call.NoMemory refused) = codes "no memory"

abbrev pub open_fault_text : OpenFault → List ℕ
open_fault_text open_fault.Seats = codes "not 1 to 64 seats"
open_fault_text (open_fault.NoMemory refused) = codes "no memory"
