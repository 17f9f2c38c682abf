use Rattle.std.proofs.Common.{◌≡◌, ℕ, List, [], ◌++◌, codes, decimal, Some, append_assoc, refl, arith}
use Rattle.std.proofs.lemmas.Grind.{common_steps}
use Rattle.cdb_setup.specs.Numbers.{fault_name, numbered_text, setup_detail}
use Rattle.cdb_setup.specs.declared.fault.SetupFault.{SetupFault}
use Rattle.cdb_streams.specs.FaultTexts.{as_line}
use Rattle.cdb_streams.proofs.fault_text.write_numbered.Goals as goal

-- the line of a fault, by its number, its name and the rest
line : (fault : SetupFault) (shown number : ℕ) (name rest : List ℕ) → shown ≡ number → name ≡ fault_name fault → rest ≡ setup_detail fault ++ codes "\n"
    → as_line (numbered_text (Some number) fault) ≡ codes "setup fault " ++ (decimal shown ++ (codes " " ++ (name ++ rest)))
line fault shown number name rest same named is = rw (same, named, is) (simp append_assoc)

pub returns-in-Missing : goal.returns-in-Missing
returns-in-Missing g c =
    let rest = codes " " ++ (c.name-in-Missing.result.now ++ codes "\n") in
    rw (line c.args.fault.now _ _ _ rest c.from.ensures c.name.ensures (rw (c.in-Missing.is, c.name-in-Missing.ensures) refl)) c.write_each.ensures

pub returns-in-BadInput : goal.returns-in-BadInput
returns-in-BadInput g c =
    let rest = codes " " ++ (decimal c.in-BadInput.position ++ codes "\n") in
    rw (line c.args.fault.now _ _ _ rest c.from.ensures c.name.ensures (rw c.in-BadInput.is refl)) c.write_each-in-BadInput.ensures

pub returns-in-BadOracle : goal.returns-in-BadOracle
returns-in-BadOracle g c =
    let rest = codes " " ++ (decimal c.in-BadOracle.process ++ (codes " " ++ (decimal c.in-BadOracle.position ++ codes "\n"))) in
    rw (line c.args.fault.now _ _ _ rest c.from.ensures c.name.ensures (rw c.in-BadOracle.is (simp append_assoc))) c.write_each-in-BadOracle.ensures

pub returns-in_default : goal.returns-in_default
returns-in_default g c =
    let none : setup_detail c.args.fault.now ≡ [] = grind (arith, common_steps) in
    rw (line c.args.fault.now _ _ _ (codes "\n") c.from.ensures c.name.ensures (rw none refl)) c.write_each-in_default.ensures
