use Rattle.std.proofs.Common.{◌≡◌, ℕ, suc, ◌+◌, length, ap, subst, arith, rules}
use Rattle.cdb_rules.specs.RunView.{RunView}
use Rattle.cdb_rules.specs.Runs.{machine_in}
use Rattle.cdb_trail.specs.Origins.{IsOrigin}
use Rattle.cdb_trail.proofs.ValueOrigins.{one_origin_more}
use Rattle.cdb_trail.proofs.origins.origins_by.Goals as goal

pub loop-i-preserved : goal.loop-i-preserved
loop-i-preserved g c =
    let machine = machine_in g.P.Process.table c.args.run.now in
    let run : RunView = c.args.run.now in
    let i : ℕ = c.loop-i.i in
    let number : length c.as_slice.result.now + 1 ≡ suc i =
    (let same = ap length c.as_slice.ensures.value in let count = c.loop-i.invariant.number in omega (arith, same, count)) in
    let origin = subst (λ m. IsOrigin machine g.P.Flowing.flows run.history m c.origin_behind.result) number c.origin_behind.ensures in
    record {
      again = c.in_ok-play_on.ensures.again;
      number = c.in_ok-play_on.ensures.number;
      flows = c.in_ok-play_on.ensures.flows;
      count = search rules;
      each =
          rw c.in_ok-push.ensures.items
          (one_origin_more (IsOrigin machine g.P.Flowing.flows run.history) c.loop-i.origins.items
          i c.origin_behind.result c.loop-i.invariant.count origin c.loop-i.invariant.each);
    }

pub returns : goal.returns
returns g c =
    let within = ap length c.events-i-end.ensures in
    let count = c.loop-i.invariant.count in
    (omega (arith, within, count), c.loop-i.invariant.each)
