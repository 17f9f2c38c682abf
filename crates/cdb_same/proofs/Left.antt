-- What is told of the runs that two scripts leave.
use Rattle.std.proofs.Common.{ℕ, List}
use Rattle.cdb_explain.specs.RunLeft.{IsRunLeft}
use Rattle.cdb_rules.specs.RunView.{RunView}
use Rattle.cdb_rules.specs.Rules.{Rules}
use Rattle.cdb_setup.specs.Parts.{Parts}
use Rattle.cdb_streams.specs.declared.fault.PlayFault.{PlayFault}
use Rattle.cdb_streams.specs.declared.fault.PlayFault.TheVariants.{Write, NoMemory}
use Rattle.cdb_same.specs.Same.{IsFaultOfOutput, IsFaultOfSame}

pub fault_of_output : (rules : Parts → Rules) (json first second : List ℕ) (run : RunView)
    → IsRunLeft rules json first run → (fault : PlayFault) → IsFaultOfOutput fault → IsFaultOfSame json first second fault
fault_of_output rules json first second run left Write is = (left.setup, left.encodes)
fault_of_output rules json first second run left (NoMemory refused) is = left.encodes.0
fault_of_output rules json first second run left fault is = absurd is
