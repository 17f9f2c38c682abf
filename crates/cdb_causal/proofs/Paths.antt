-- In a list of steps a free one may be taken last.
use Rattle.std.proofs.Common.{◌≡◌, ℕ, Bool, List, [], ◌∷◌, ◌++◌, Some, refl, sym, subst}
use Rattle.cdb_base.specs.Positions.{nth}
use Rattle.cdb_causal.specs.Causality.{IsFree}
use Rattle.cdb_causal.specs.Paths.{IsPath}
use Rattle.cdb_causal.specs.Exchanges.{IsExchangeable}
use Rattle.cdb_causal.specs.Rollback.{without}
use Rattle.cdb_causal.proofs.Exchanges.{HoldsOfExchanges, of_exchanged, free_to_end}

module _ {State Step : Type 0} (IsStep : State → Step → State → Type 0) where
  pub path_push : (from between to : State) (steps : List Step) (step : Step) → IsPath IsStep from steps between → IsStep between step to
      → IsPath IsStep from (steps ++ step ∷ []) to
  path_push from between to [] step p s = (to, subst (λ x. IsStep x step to) (sym p) s, refl)
  path_push from between to (x ∷ xs) step p s = (p.0, p.1, path_push p.0 between to xs step p.2 s)

  module _ (depends : Step → Step → Bool) (exchange : IsExchangeable IsStep depends) where
    -- others lead to a state from which the step leads to the end
    abbrev pub MayBeLast : State → State → List Step → Step → Type 0
    MayBeLast from to others step = (last : State) × IsPath IsStep from others last × IsStep last step to

    exchanged_paths : HoldsOfExchanges depends (λ steps others. (from to : State) → IsPath IsStep from steps to → IsPath IsStep from others to)
    exchanged_paths =
        record {
          itself = λ steps from to p. p;
          joined = λ there on from to p. on from to (there from to p);
          behind_one = λ step steps others rest from to p. (p.0, p.1, rest p.0 to p.2);
          front = λ first second rest independent from to p.
              let turned = exchange from p.0 (p.2).0 first second independent p.1 (p.2).1 in
              (turned.0, turned.1, ((p.2).0, turned.2, (p.2).2));
        }

    path_last : (from to : State) (steps : List Step) (step : Step) → IsPath IsStep from (steps ++ step ∷ []) to → MayBeLast from to steps step
    path_last from to [] step p = (from, refl, rw p.2 at p.1)
    path_last from to (x ∷ xs) step p = let rest = path_last p.0 to xs step p.2 in (rest.0, (p.0, p.1, rest.1), rest.2)

    -- a free step may be taken last
    pub free_last : (from to : State) (steps : List Step) (at : ℕ) (step : Step) → nth steps at ≡ Some step → IsFree depends steps at
        → IsPath IsStep from steps to → MayBeLast from to (without steps at) step
    free_last from to steps at step stands free p =
        path_last from to (without steps at) step (of_exchanged depends exchanged_paths (free_to_end depends steps at step stands free) from to p)
