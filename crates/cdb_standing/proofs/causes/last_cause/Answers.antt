use Rattle.cdb_standing.proofs.LinksFound.{loss_last}
use Rattle.cdb_standing.proofs.causes.last_cause.Goals as goal

pub returns-in-Step : goal.returns-in-Step
returns-in-Step c = rw c.in-Step.is c.last_cause_of_step.ensures

pub returns-in-Lost : goal.returns-in-Lost
returns-in-Lost c =
    rw (c.in-Lost.is, c.by_message.ensures)
    (loss_last c.requires.kept.sound c.in-Lost.copy c.args.q (rw c.in-Lost.is at c.requires.stands))
