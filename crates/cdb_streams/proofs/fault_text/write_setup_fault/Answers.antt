use Rattle.cdb_streams.proofs.fault_text.write_setup_fault.Goals as goal

pub returns-in-Some : goal.returns-in-Some
returns-in-Some g c = simp (← c.number.ensures, c.in-Some.is) c.write_numbered.ensures
