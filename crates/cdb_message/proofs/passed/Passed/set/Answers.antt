use Rattle.std.proofs.Common.{◌<◌, length, rules}
use Rattle.cdb_message.proofs.Stretches.{stretch_of-set}
use Rattle.cdb_message.proofs.passed.Passed.set.Goals as goal

pub returns : goal.returns
returns c =
    let within : c.place.result < length c.args.self.now.stretches = search rules in
    rw c.place.ensures.value
    (stretch_of-set c.args.self.now.stretches c.args.p c.args.s c.place.ensures.from_one
    (rw c.place.ensures.value at within) c.args.stretch)
