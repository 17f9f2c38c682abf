use Rattle.cdb_message.proofs.Stretches.{stretch_of-get}
use Rattle.cdb_message.proofs.passed.Passed.get.Goals as goal

pub returns : goal.returns
returns c =
    rw c.place.ensures.value
    (stretch_of-get c.args.self.now.stretches c.args.p c.args.s c.place.ensures.from_one)
