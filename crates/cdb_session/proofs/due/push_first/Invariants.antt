use Rattle.std.proofs.Common.{◌≡◌, List, ℕ, Bor, drop, map}
use Rattle.cdb_session.specs.Due.{first_amiss}
use Rattle.cdb_session.proofs.due.push_first.Given as goal

abbrev pub invariant-loop-due : goal.invariant-loop-due
invariant-loop-due l =
    (l.text ≡ l.fn.text)
    × (first_amiss l.fn.chooses l.fn.dues (map (λ (it : Bor (List ℕ)). it.now) l.fn.words)
    ≡ first_amiss l.chooses (drop l.due-index l.dues) (map (λ (it : Bor (List ℕ)). it.now) l.left))
