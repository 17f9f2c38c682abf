use Rattle.cdb_causal.specs.Exchange.{same, step}
use Rattle.cdb_rules.proofs.Histories.{fold_exchanged}
use Rattle.cdb_agreement.proofs.laws.exchange.Goals as goal

pub returns : goal.returns
returns g c = λ machine history other exchange. fold_exchanged machine _ _ (step exchange same)
