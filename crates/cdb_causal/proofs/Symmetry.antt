-- Two events depend on each other where they are steps of one process, or one affects the other; their order does not matter.
use Rattle.std.proofs.Common.{arith, ◌≡◌, ◌||◌, false, sym, ◌∙◌}
use Rattle.std.proofs.lemmas.Grind.{common_steps}
use Rattle.std.proofs.lemmas.Option.{gets}
use Rattle.cdb_base.specs.declared.event.Event.{Event}
use Rattle.cdb_causal.specs.Dependence.{same_process, depends}
use Rattle.cdb_causal.specs.Effects.{affects}
use Rattle.std.proofs.lemmas.Bool.{or_parts}
use Rattle.cdb_causal.specs.Reach.{IsSymmetric}

-- ---- Two events depend on each other where they are steps of one process, or one affects the other.

pub by_effect : (event other : Event) → depends event other ≡ (same_process event other || (affects event other || affects other event))
by_effect event other = grind (arith, common_steps, gets)

-- ---- Dependence is symmetric: the order of the two events does not matter.

pub symmetric : IsSymmetric depends
symmetric first second = grind (arith, common_steps, gets)

-- the three parts of independence
module _ (first second : Event) (independent : depends first second ≡ false) where
  parts : (same_process first second || (affects first second || affects second first)) ≡ false
  parts = sym (by_effect first second) ∙ independent

  pub other_process : same_process first second ≡ false
  other_process = (or_parts _ _ parts).0

  pub unaffected : affects first second ≡ false
  unaffected = (or_parts _ _ (or_parts _ _ parts).1).0

  pub unaffecting : affects second first ≡ false
  unaffecting = (or_parts _ _ (or_parts _ _ parts).1).1
