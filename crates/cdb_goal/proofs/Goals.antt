-- What the processes that are shown say of a goal.
use Rattle.std.proofs.Common.{◌≡◌, ◌≢◌, ◌↔◌, ◌==◌, inl, inr, ℕ, false, List, Option, Some, None, IsTrue, not, refl, sym, ◌∙◌, arith}
use Rattle.std.specs.Option.{option_map_or}
use Rattle.std.proofs.lemmas.Bool.Decides.{eqb_tells, nat_tests}
use Rattle.cdb_base.specs.declared.event.Event.{Event}
use Rattle.cdb_goal.specs.Holds.{Holds, IsDecided, ShowsProcess, Differ}
use Rattle.cdb_goal.specs.Tests.{passes}
use Rattle.cdb_goal.specs.declared.tests.Test.{Test}
use Rattle.cdb_goal.specs.declared.tests.Test.TheVariants.{HasDecidedOther}
use Rattle.cdb_rules.specs.Rules.{Rules}

module _ (rules : Rules) (history : List Event) where
  -- some process passes the test
  abbrev pub Passes : Test → Type 0
  Passes test = ShowsProcess rules history (λ it. IsTrue (passes test it.round it.alive it.decision))

  -- another decision than one that stands
  other_of : (value : ℕ) (decision : Option ℕ) → IsTrue (option_map_or (λ other. not (other == value)) decision false)
      → (other : ℕ) × (value ≢ other) × (decision ≡ Some other)
  other_of value None is = cc
  other_of value (Some other) is = (other, (λ same. absurd (grind (arith, nat_tests))), refl)

  passes_other : (value other : ℕ) → other ≢ value → IsDecided rules history other → Passes (HasDecidedOther value)
  passes_other value other differ (p, it, is, decided) = (p, it, is, rw decided (grind (arith, nat_tests)))

  -- two decisions differ exactly where one differs from a decision that stands
  pub differ_from : (value : ℕ) → IsDecided rules history value → Passes (HasDecidedOther value) ↔ Holds rules history Differ
  differ_from value decided = (to_differ, from_differ)
    where
      to_differ : Passes (HasDecidedOther value) → Holds rules history Differ
      to_differ (p, it, is, other) = let found = other_of value it.decision other in (value, found.0, found.1, decided, (p, it, is, found.2))

      from_differ : Holds rules history Differ → Passes (HasDecidedOther value)
      from_differ (one, other, differ, first, second) =
          elim (eqb_tells one value) [
            | inl same ↦ passes_other value other (λ it. differ (same.1 ∙ sym it)) second
            | inr is ↦ passes_other value one is.1 first
          ]
