-- Bytes stand for one setup.
use Rattle.std.proofs.Common.{arith, ◌≡◌, ◌⊎◌, Result, Ok, Err}
use Rattle.std.proofs.lemmas.Grind.{common_steps}
use Rattle.std.proofs.lemmas.Option.{gets}
use Rattle.cdb_base.specs.Memory.{no_memory}
use Rattle.cdb_setup.specs.Parts.{Parts}
use Rattle.cdb_setup.specs.declared.fault.SetupFault.{SetupFault}
use Rattle.cdb_setup.specs.declared.fault.SetupFault.TheVariants.{NoMemory}

module _ (read : Result Parts SetupFault) (found parts : Parts) (is : read ≡ Ok found) where
  -- what they stand for is what was read
  pub same_setup : (read ≡ Ok parts) ⊎ (read ≡ Err (NoMemory no_memory)) → found ≡ parts
  same_setup only = grind (arith, common_steps, gets)
