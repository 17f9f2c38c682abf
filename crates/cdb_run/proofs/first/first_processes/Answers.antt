use Rattle.std.proofs.lemmas.Grind.{common_steps}
use Rattle.std.proofs.lemmas.Option.{gets}
use Rattle.std.proofs.Common.{◌≡◌, ℕ, suc, ◌+◌, List, [], ◌∷◌, ◌++◌, map, drop, Some, slice_get, ap, ◌∙◌, sym, add-one, append_assoc, arith}
use Rattle.cdb_base.specs.Positions.{nth}
use Rattle.cdb_rules.specs.Machines.{first_states}
use Rattle.cdb_rules.specs.State.{fresh_progress}
use Rattle.cdb_rules.specs.declared.progress.Progress.{Progress}
use Rattle.cdb_run.proofs.first.first_processes.Goals as goal

-- what stands at a position is the first of what is left there
left_at : (xs : List ℕ) (i value : ℕ) → slice_get xs i ≡ Some value → drop i xs ≡ value ∷ drop (suc i) xs
left_at xs i value there = grind (arith, common_steps, gets)

-- one process more is made
one_made : {L : Type 0} (first : ℕ → ℕ → ℕ → ℕ → L) (n q i value : ℕ) (values : List ℕ) (made : List (Progress L)) → nth values (i + 1) ≡ Some value
    → (made ++ fresh_progress (first (i + 1) n q value) ∷ []) ++ map fresh_progress (first_states first (i + 1 + 1) n q (drop (i + 1) values))
    ≡ made ++ map fresh_progress (first_states first (i + 1) n q (drop i values))
one_made first n q i value values made there =
    rw (add-one i, add-one (suc i))
    (append_assoc made (fresh_progress (first (suc i) n q value) ∷ []) (map fresh_progress (first_states first (suc (suc i)) n q (drop (suc i) values)))
    ∙ ap (λ l. made ++ map fresh_progress (first_states first (suc i) n q l)) (sym (left_at values i value (rw (add-one i) at there))))

pub loop-i-preserved : goal.loop-i-preserved
loop-i-preserved g c =
    let setup = c.args.setup.now in
    let first = g.P.Process.table.first in
    let p = c.new-p.ensures.value in
    rw (c.in_ok-push.ensures.items, c.in_ok-local.ensures, c.n-n.ensures.value, c.q.ensures, p)
    (one_made first setup.processes setup.quorum c.loop-i.i c.input.result setup.inputs c.loop-i.processes.items
    (rw p at c.input.ensures) ∙ c.loop-i.invariant)
