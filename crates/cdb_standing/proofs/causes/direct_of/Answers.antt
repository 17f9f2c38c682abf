use Rattle.cdb_standing.proofs.LinksFound.{at_entry, hidden, shown, no_cause}
use Rattle.cdb_standing.proofs.causes.direct_of.Goals as goal

pub returns-in_err-k : goal.returns-in_err-k
returns-in_err-k c = rw c.from_residual.ensures (no_cause c.requires.kept.sound c.args.q (rw c.in_err-k.was at c.last_cause.ensures))

pub returns-then-is_hidden : goal.returns-then-is_hidden
returns-then-is_hidden c =
    let entry = c.in_ok-cause.cause.now in
    let is = at_entry c.requires.kept.sound c.args.q c.in_ok-k.k entry c.in_ok-cause.ensures c.in_ok-k.ensures in
    let b = rw c.if-is_hidden.true at (c.is_hidden.ensures c.args.q c.in_ok-k.k is) in
    hidden c.requires.kept.sound is b.2

pub returns-else-is_hidden : goal.returns-else-is_hidden
returns-else-is_hidden c =
    let entry = c.in_ok-cause.cause.now in
    let is = at_entry c.requires.kept.sound c.args.q c.in_ok-k.k entry c.in_ok-cause.ensures c.in_ok-k.ensures in
    shown c.requires.kept.sound is (rw c.if-is_hidden.false at (c.is_hidden.ensures c.args.q c.in_ok-k.k is))
