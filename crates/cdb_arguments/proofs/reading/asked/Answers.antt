use Rattle.cdb_base.specs.Requests.{texts}
use Rattle.cdb_arguments.proofs.Requests.{plain_asked}
use Rattle.cdb_arguments.proofs.reading.asked.Goals as goal

pub returns-clause-plain : goal.returns-clause-plain
returns-clause-plain c = plain_asked (texts c.args.words.now) c.read.result c.read.ensures.ok c.read.ensures.taken
