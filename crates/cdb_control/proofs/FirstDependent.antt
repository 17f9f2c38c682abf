-- None depends on an event of a history, or a first one does.
use Rattle.std.proofs.Common.{ℕ, suc, ◌<◌, ◌⊎◌, inl, inr, ⊎_elim, List, length, refl, arith}
use Rattle.std.proofs.lemmas.Bool.{cases_lt}
use Rattle.cdb_base.specs.Event.{event_name}
use Rattle.cdb_base.specs.declared.event.Event.{Event}
use Rattle.cdb_base.specs.declared.name.StepId.{StepId}
use Rattle.cdb_causal.specs.Causality.{IsLink, IsFree}
use Rattle.cdb_causal.specs.Dependence.{depends}
use Rattle.cdb_causal.specs.Names.{IsFirstDependent}
use Rattle.cdb_causal.proofs.Counts.{first_below}
use Rattle.cdb_causal.proofs.Lists.{nth_within}
use Rattle.cdb_causal.proofs.Walks.{linked_or_not}

pub free_or_needed : (history : List Event) (at : ℕ) → IsFree depends history at ⊎ ((later : StepId) × IsFirstDependent history at later)
free_or_needed history at =
    ⊎_elim
    (λ none. inl (λ j link. none j (within j link) link))
    (λ found. inr (event_name (found.1).effect, first found.0 found.1 found.2))
    (first_below (IsLink depends history at) (linked_or_not depends history at) (suc (length history)))
  where
    within : (j : ℕ) → IsLink depends history at j → j < suc (length history)
    within j link = let low = nth_within history j link.effect link.at_effect in omega (arith, low)

    first : (k : ℕ) (link : IsLink depends history at k) → ((j : ℕ) → j < k → IsLink depends history at j → ⊥)
        → IsFirstDependent history at (event_name link.effect)
    first k link none =
        record {
          position = k;
          named = (link.effect, link.at_effect, refl);
          link = link;
          first = λ other later. ⊎_elim (λ less. absurd (none other less later)) (λ high. high) (cases_lt other k);
        }
