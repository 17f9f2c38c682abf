use Rattle.std.proofs.Common.{refl, arith, sym, eqb-true}
use Rattle.cdb_base.specs.declared.event.Event.TheVariants.{Step}
use Rattle.cdb_standing.proofs.CutsFound.{cut_at, own_closed, moved_on}
use Rattle.cdb_standing.proofs.cuts.look_for.Goals as goal

pub returns-then-eq-clause-closed : goal.returns-then-eq-clause-closed
returns-then-eq-clause-closed c =
    let entry = c.args.entry.now in
    rw (← eqb-true c.args.p c.args.q (sym c.if-eq.ensures))
    (own_closed c.requires.kept.sound c.args.forward c.args.p c.args.k entry.mark entry.kind c.args.cuts.now c.requires.own)

pub returns-then-has_none_behind-clause-closed : goal.returns-then-has_none_behind-clause-closed
returns-then-has_none_behind-clause-closed c = rw c.if-forward.true (λ l b other d.
    let is = cut_at c.args.cuts.now c.index.result in
    let none = c.if-has_none_behind.ensures refl l b other d.effect d.later in grind arith)

pub returns : goal.returns
returns c =
    let entry = c.args.entry.now in
    let did =
    moved_on c.requires.kept.sound c.args.forward (Step c.args.p c.args.k entry.kind) entry.mark c.args.q
    c.nearest.result c.nearest.ensures c.args.cuts.now c.move_to.new.cuts c.move_to.ensures in
    record { sound = did.0; closed = did.1; wider = did.2; few = did.3 }
