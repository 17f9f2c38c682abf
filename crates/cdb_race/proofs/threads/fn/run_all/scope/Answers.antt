use Rattle.std.proofs.Common.{◌≡◌, ◌<◌, length, arith}
use Rattle.cdb_race.proofs.Collected.{made_of}
use Rattle.cdb_race.proofs.threads.fn.run_all.scope.Goals as goal

pub returns-in-Ok : goal.returns-in-Ok
returns-in-Ok g c =
    let seats = c.captures.seats.items in
    let gates = c.captures.gates.items in
    let handles = c.in_ok-handles.handles.items in
    let rans = c.in-Ok.rans.items in
    let joined = c.in-Ok.ensures in
    let started = c.in_ok-handles.ensures in
    let many : length rans ≡ length handles = omega (arith, joined.len, c.in-Ok.rans.ok.0, c.in_ok-handles.handles.ok.0) in
    record {
      ran = record {
        many = omega (arith, many, started.count, c.in_ok-handles.handles.ok.0, c.captures.seats.ok.0);
        ran = λ k ran low before.
            let at = (joined.each k ran (omega (arith, low, c.in-Ok.rans.ok.0, joined.len))).1 in
            let of_k : k < length handles = omega (arith, low, many) in
            let plan = started.each.plan_is k at.handle of_k in
            let seat = made_of _ handles seats k at.handle before started.each.seats_are of_k in
            rw (seat, ← at.handle_is) (rw (rw (← at.handle_is) at plan) at at.kept.0);
        ended = λ k ran gate low before.
            let at = (joined.each k ran (omega (arith, low, c.in-Ok.rans.ok.0, joined.len))).1 in
            let of_k : k < length handles = omega (arith, low, many) in
            let seat = made_of _ handles seats k at.handle before started.each.seats_are of_k in
            let its_gate = made_of _ handles gates k at.handle gate started.each.gates_are of_k in
            rw (seat, its_gate, ← at.handle_is) at.kept.1;
      };
      fault = tt;
    }
