use Rattle.std.proofs.Common.{◌≡◌, ◌+◌, suc, length, arith}
use Rattle.cdb_trail.proofs.ValueOrigins.{from_step, from_input, given}
use Rattle.cdb_trail.proofs.origins.origin_behind.Goals as goal

pub returns-in-Some-last_setter : goal.returns-in-Some-last_setter
returns-in-Some-last_setter g c =
    let e : length c.args.flows.now + 1 ≡ suc (length c.args.flows.now) = omega arith in
    let i : c.in-Some-last_setter.i + 1 ≡ suc c.in-Some-last_setter.i = omega arith in
    let taken = rw c.in-Some.is at c.taken_by.ensures in
    from_step g.P.Process.table g.P.Flowing.flows c.args.run.now c.args.flows.now c.requires.flows e taken i c.in-Some-last_setter.ensures.last

pub process_of-requires : goal.process_of-requires
process_of-requires g c =
    let e : length c.args.flows.now + 1 ≡ suc (length c.args.flows.now) = omega arith in
    let taken = rw c.in-Some.is at c.taken_by.ensures in
    let it =
    given g.P.Process.table g.P.Flowing.flows c.args.run.now c.args.flows.now c.requires.flows e taken
    c.requires.has_trails c.requires.valid c.in-None.ensures.last in
    (it.0, _, it.2)

pub returns-in-None : goal.returns-in-None
returns-in-None g c =
    let e : length c.args.flows.now + 1 ≡ suc (length c.args.flows.now) = omega arith in
    let taken = rw c.in-Some.is at c.taken_by.ensures in
    from_input g.P.Process.table g.P.Flowing.flows c.args.run.now c.args.flows.now c.requires.flows e taken
    c.requires.has_trails c.requires.valid c.in-None.ensures.last c.process_of.result c.process_of.ensures
