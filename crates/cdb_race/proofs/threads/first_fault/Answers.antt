use Rattle.std.proofs.Common.{◌-◌, ◌∙◌, rules, sym, arith}
use Rattle.cdb_race.proofs.threads.first_fault.Goals as goal

pub returns-in-Some : goal.returns-in-Some
returns-in-Some g c =
    let before = c.loop-position.auto.position in
    let test = c.loop-position-test.true in
    record {
      its = c.index-rans-position.result;
      position = c.loop-position.position - 1;
      within = omega (arith, before, test);
      at = search rules;
      has = sym c.fault_of.ensures ∙ c.in-Some.is;
      last = λ k ran low below. c.loop-position.invariant k ran (omega (arith, low, test)) below;
    }
