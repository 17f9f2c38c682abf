use Rattle.std.proofs.Common.{◌<◌, ◌≤◌, length, Some, None, arith}
use Rattle.cdb_message.proofs.Least.{next-found, least_pending, least-sender, none-sender}
use Rattle.cdb_message.proofs.mail.Mail.pending.Goals as goal

pub returns-in-Some-clause-value : goal.returns-in-Some-clause-value
returns-in-Some-clause-value c =
    let few : length c.args.self.now.sent ≤ 9 = rw (← c.self.view_is) c.self.invariant.1 in
    next-found c.args.self.now c.args.p c.args.after few (Some c.in-Some.name)
    (least-sender c.args.self.now c.args.p c.args.after c.new.result c.loop-s.s c.in-Some.name (omega arith)
    c.in-Some.ensures c.loop-s.invariant)

pub returns-clause-value : goal.returns-clause-value
returns-clause-value c =
    let few : length c.args.self.now.sent ≤ 9 = rw (← c.self.view_is) c.self.invariant.1 in
    let end : length c.args.self.now.sent < c.loop-s.s = rw (← c.self.view_is) (omega arith) in
    next-found c.args.self.now c.args.p c.args.after few None
    (none-sender c.args.self.now c.args.p c.args.after c.loop-s.s end c.loop-s.invariant)

pub returns-clause-least : goal.returns-clause-least
returns-clause-least c =
    let end : length c.args.self.now.sent < c.loop-s.s = rw (← c.self.view_is) (omega arith) in
    least_pending c.args.self.now c.args.p c.args.after None
    (none-sender c.args.self.now c.args.p c.args.after c.loop-s.s end c.loop-s.invariant)
