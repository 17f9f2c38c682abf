use Rattle.cdb_agreement.proofs.Numbered.{steps_numbered, sends_numbered}
use Rattle.cdb_agreement.proofs.laws.numbers.Goals as goal

pub returns-clause-steps : goal.returns-clause-steps
returns-clause-steps g c = λ machine. steps_numbered machine

pub returns-clause-sends : goal.returns-clause-sends
returns-clause-sends g c = λ machine. sends_numbered machine
