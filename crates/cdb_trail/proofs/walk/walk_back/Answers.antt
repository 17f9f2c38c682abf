use Rattle.std.proofs.Common.{◌≡◌, ◌+◌, ◌-◌, suc, false, length, replicate, rules, sym, ◌∙◌, true≢false, arith}
use Rattle.std.proofs.lemmas.Option.{none-some}
use Rattle.cdb_trail.proofs.ReadsPlayed.{flow_there}
use Rattle.cdb_trail.proofs.WalkBack.{begun, passed, source, stepped, is_input, found}
use Rattle.cdb_trail.proofs.walk.walk_back.Goals as goal

pub loop-i-init : goal.loop-i-init
loop-i-init g c =
    let filled : c.in_ok-flags.flags.items ≡ replicate (length c.events.result.now) false = search rules in
    let next : length c.args.flows.now + 1 ≡ suc (length c.args.flows.now) = omega arith in
    rw (filled, c.events.ensures) (begun c.requires.has_trail.2 next c.requires.within c.requires.takes)

pub loop-i-preserved-in-Some : goal.loop-i-preserved-in-Some
loop-i-preserved-in-Some g c =
    let e : c.loop-i.i ≡ suc (c.loop-i.i - 1) = omega arith in
    let is = flow_there g.P.Process.table g.P.Flowing.flows c.args.run.now c.args.flows.now c.requires.flows e (omega arith) c.index-flows-i.is in
    let sets = rw is at (c.sets.ensures.0 c.if-sets.true) in
    let takes = rw is at (sym c.takes.ensures ∙ c.in-Some.is) in
    stepped e c.loop-i.invariant sets (omega (arith, c.requires.within)) takes

pub unreachable-requires : goal.unreachable-requires
unreachable-requires g c =
    let e : c.loop-i.i ≡ suc (c.loop-i.i - 1) = omega arith in
    let is = flow_there g.P.Process.table g.P.Flowing.flows c.args.run.now c.args.flows.now c.requires.flows e (omega arith) c.index-flows-i.is in
    let sets = rw is at (c.sets.ensures.0 c.if-sets.true) in
    let takes = rw is at (sym c.takes.ensures ∙ c.in-None.is) in
    let from = source e c.loop-i.invariant sets in
    none-some from.0 (sym takes ∙ from.1)

pub loop-i-preserved : goal.loop-i-preserved
loop-i-preserved g c =
    let e : c.loop-i.i ≡ suc (c.loop-i.i - 1) = omega arith in
    let is = flow_there g.P.Process.table g.P.Flowing.flows c.args.run.now c.args.flows.now c.requires.flows e (omega arith) c.index-flows-i.is in
    passed e c.loop-i.invariant (λ sets. true≢false (sym (c.sets.ensures.1 (rw is sets)) ∙ c.if-sets.false))

pub process_of-requires : goal.process_of-requires
process_of-requires g c =
    let e : c.loop-i.i ≡ 0 = omega arith in
    (_, _, is_input e c.loop-i.invariant)

pub returns : goal.returns
returns g c =
    let e : c.loop-i.i ≡ 0 = omega arith in
    found e c.loop-i.invariant _ (c.process_of.ensures _ _ (is_input e c.loop-i.invariant))
