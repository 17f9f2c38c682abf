use Rattle.cdb_agreement.proofs.Lawful.{agreed}
use Rattle.cdb_agreement.proofs.agreement.shown_decisions_agree.Goals as goal

pub returns : goal.returns
returns c = λ setup in_range history valid majority. agreed setup in_range majority _ valid
