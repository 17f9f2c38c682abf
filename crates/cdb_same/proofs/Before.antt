-- Which event stands before which, by positions.
use Rattle.std.proofs.Common.{◌≡◌, ℕ, zero, suc, ◌<◌, List, ◌∷◌, Some, refl, arith}
use Rattle.std.proofs.lemmas.Grind.{common_steps}
use Rattle.std.proofs.lemmas.Option.{gets, same_Some}
use Rattle.cdb_base.specs.Event.{event_name}
use Rattle.cdb_base.specs.Positions.{nth}
use Rattle.cdb_base.specs.declared.event.Event.{Event}
use Rattle.cdb_causal.specs.Exchange.{here, there, IsBefore, IsEachOnce}
use Rattle.cdb_causal.specs.StandingEvents.{IsStanding}
use Rattle.cdb_rules.proofs.ListMembers.{position_in}
use Rattle.cdb_rules.proofs.ValidHistories.{in_position}

module _ {E : Type 0} where
  pub before_at : (xs : List E) (i j : ℕ) (a b : E) → i < j → nth xs i ≡ Some a → nth xs j ≡ Some b → IsBefore a b xs
  before_at (x ∷ xs) (suc zero) (suc (suc j)) a b less at_i at_j = rw (← same_Some x a at_i) (here (in_position xs (suc j) b at_j))
  before_at (x ∷ xs) (suc (suc i)) (suc (suc j)) a b less at_i at_j = there (before_at xs (suc i) (suc j) a b (omega arith) at_i at_j)
  before_at xs i j a b less at_i at_j = absurd (grind arith)

  -- both stand there, at these positions
  pub record StandApart (xs : List E) (a b : E) : Type 0 where
    pub one : ℕ
    pub other : ℕ
    pub order : one < other
    pub at_one : nth xs one ≡ Some a
    pub at_other : nth xs other ≡ Some b

  pub apart : {a b : E} {xs : List E} → IsBefore a b xs → StandApart xs a b
  apart {b = b} (here {rest = rest} i) =
      let found = position_in b rest i in
      record { one = 1; other = suc (suc found.0); order = omega arith; at_one = refl; at_other = found.1 }
  apart {a = a} {b = b} (there {other = x} {rest = rest} before) =
      let found = apart before in
      record {
        one = suc found.one;
        other = suc found.other;
        order = omega arith;
        at_one = grind (arith, common_steps, gets);
        at_other = grind (arith, common_steps, gets);
      }

module _ (history : List Event) (standing : IsStanding history) where
  -- an event stands at one position
  pub one_position : (i j : ℕ) (event : Event) → nth history i ≡ Some event → nth history j ≡ Some event → i ≡ j
  one_position i j event at_i at_j = standing.names_differ i j (event_name event) (event, at_i, refl) (event, at_j, refl)

  pub each_once : IsEachOnce history
  each_once event before =
      let found = apart before in
      let same = one_position found.one found.other event found.at_one found.at_other in
      absurd (omega arith)

  pub before_then : (a b c : Event) → IsBefore a b history → IsBefore b c history → IsBefore a c history
  before_then a b c first second =
      let one = apart first in
      let two = apart second in
      let same = one_position one.other two.one b one.at_other two.at_one in
      before_at history one.one two.other a c (omega arith) one.at_one two.at_other
