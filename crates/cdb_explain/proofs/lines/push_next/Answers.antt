use Rattle.std.proofs.Common.{length, ap, arith}
use Rattle.cdb_rules.proofs.Flagged.{item_at}
use Rattle.cdb_explain.proofs.Along.{its_line}
use Rattle.cdb_explain.proofs.lines.push_next.Goals as goal

pub returns-then-flag-clause-line : goal.returns-then-flag-clause-line
returns-then-flag-clause-line g c =
    let at = item_at c.events-events.ensures c.args.i _ (omega (arith, ap length c.events-events.ensures)) c.index-events-i.is in
    let line = its_line g.T.Runs.rules c.args.i c.in_ok-play_on.ensures.standing at c.in_ok-play_on.ensures.played c.in_ok-deed.ensures c.args.causes in
    rw (c.if-flag.true, ← line) c.in_ok-push_line.ensures
