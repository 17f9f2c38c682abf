use Rattle.std.proofs.Common.{◌≡◌, ◌∙◌, ℕ, [], ap, replicate, arith}
use Rattle.cdb_base.specs.Processes as Processes
use Rattle.cdb_deeds.proofs.received.ReceivedNames.none.Goals as goal

pub returns : goal.returns
unfolding Processes.all_processes
returns c =
    let nine : c.loop-i._i ≡ 9 = omega arith in
    c.loop-i.invariant.0 ∙ ap (λ (n : ℕ). replicate n []) nine
