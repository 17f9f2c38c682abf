use Rattle.std.proofs.Common.{◌≡◌, ◌+◌, suc, length, sym, ap, ◌∙◌, arith}
use Rattle.cdb_rules.proofs.Flagged.{item_at}
use Rattle.cdb_trail.proofs.ReadsPlayed.{next_of, takes_it, takes_none, lies_none}
use Rattle.cdb_trail.proofs.played.taken_by.Goals as goal

pub returns-in_default : goal.returns-in_default
returns-in_default g c =
    let e : c.args.count + 1 ≡ suc c.args.count = omega arith in
    let at = item_at c.events-events.ensures _ c.index-events-count.result (omega (arith, ap length c.events-events.ensures)) c.index-events-count.is in
    let next = next_of g.P.Process.table g.P.Flowing.flows c.args.run.now e at c.requires.before c.flow_of.ensures in
    takes_none next (sym c.takes.ensures ∙ c.in_default.is)

pub returns-in_default-value_at : goal.returns-in_default-value_at
returns-in_default-value_at g c =
    let e : c.args.count + 1 ≡ suc c.args.count = omega arith in
    let at = item_at c.events-events.ensures _ c.index-events-count.result (omega (arith, ap length c.events-events.ensures)) c.index-events-count.is in
    let next = next_of g.P.Process.table g.P.Flowing.flows c.args.run.now e at c.requires.before c.flow_of.ensures in
    lies_none next (sym c.takes.ensures ∙ c.in-Some.is) (sym c.value_at.ensures ∙ c.in_default-value_at.is)

pub returns : goal.returns
returns g c =
    let e : c.args.count + 1 ≡ suc c.args.count = omega arith in
    let at = item_at c.events-events.ensures _ c.index-events-count.result (omega (arith, ap length c.events-events.ensures)) c.index-events-count.is in
    let next = next_of g.P.Process.table g.P.Flowing.flows c.args.run.now e at c.requires.before c.flow_of.ensures in
    takes_it next (sym c.takes.ensures ∙ c.in-Some.is) (sym c.value_at.ensures ∙ c.in-Some-value_at.is)
