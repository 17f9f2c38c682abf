-- The decisions that stand.
use Rattle.std.specs.Prelude.{ℕ, suc, List, [], ◌∷◌, ◌++◌, Option, option_map, option_to_list, map}
use Rattle.cdb_rules.specs.State.{RunState}

-- of local states of processes p, p + 1, .. those that have decided, each with its process and value
abbrev pub decided_from : {L : Type 0} → (L → Option ℕ) → ℕ → List L → List (ℕ × ℕ)
decided_from decision p [] = []
decided_from decision p (local ∷ locals) =
    option_to_list (option_map (λ v. (p, v)) (decision local)) ++ decided_from decision (suc p) locals

-- the processes that have decided, in order, each with its value
abbrev pub decisions_of : {L : Type 0} → (L → Option ℕ) → RunState L → List (ℕ × ℕ)
decisions_of decision state = decided_from decision 1 (map (λ process. process.progress.local) state.processes)
