-- Flags of the events up to numbers, one event after the other.
use Rattle.std.proofs.Common.{◌≡◌, ℕ, suc, ◌+◌, ◌-◌, ◌<◌, ◌≤◌, Bool, true, IsTrue, ◌↔◌, inl, inr, List, [], ◌∷◌, ◌++◌, Some, length, get_or}
use Rattle.std.proofs.Common.{slice_get, sym, ap, ◌∙◌, arith}
use Rattle.std.proofs.lemmas.Grind.{common_steps}
use Rattle.std.proofs.lemmas.List.{length_push}
use Rattle.std.proofs.lemmas.Option.{gets, slice_get-get_or}
use Rattle.cdb_base.specs.Positions.{nth}
use Rattle.cdb_base.specs.declared.event.Event.{Event}
use Rattle.cdb_base.specs.declared.name.StepId.{StepId}
use Rattle.cdb_causal.specs.Dependence.{depends}
use Rattle.cdb_causal.specs.Past.{HasLedTo, IsInPast, one_link, link_before}
use Rattle.cdb_causal.specs.Names.{IsNamedAt}
use Rattle.cdb_causal.proofs.Lists.{by_next}
use Rattle.cdb_standing.specs.LedTo.{IsPastOfName, IsUpTo}
use Rattle.cdb_standing.proofs.Rows.{nth_some, nth_within, same_at}
use Rattle.cdb_rules.specs.Flags.{IsFlagged, FlagsPast}

-- the first n events are flagged where they are up to the numbers
pub record IsFlagging (numbers : List ℕ) (name : StepId) (events : List Event) (n : ℕ) (flags : List Bool) : Type 0 where
  pub number : length flags ≡ n
  pub each : (at : ℕ) (event : Event) → at ≤ n → nth events at ≡ Some event → IsFlagged flags at ↔ IsUpTo numbers name event

-- what is read at a position of a list stands there, from 0 and from 1
module _ {A : Type 0} {xs ys : List A} (same : xs ≡ ys) where
  pub item_at : (i : ℕ) (x : A) → i < length xs → x ≡ get_or xs i x → slice_get ys i ≡ Some x
  item_at i x within is = rw same at (slice_get-get_or xs i x within ∙ ap Some (sym is))

  pub item_one : (at : ℕ) (x : A) → 1 ≤ at → at ≤ length ys → x ≡ get_or xs (at - 1) x → nth ys at ≡ Some x
  item_one at x from_one to_len is =
      by_next (λ n. nth ys n ≡ Some x) at from_one (item_at (at - 1) x (omega (arith, ap length same)) is)

-- a flag more
module _ {numbers : List ℕ} {name : StepId} {events : List Event} {n : ℕ} {flags : List Bool} (so : IsFlagging numbers name events n flags) (b : Bool) where
  pub flagged_more : (event : Event) → slice_get events n ≡ Some event → IsTrue b ↔ IsUpTo numbers name event
      → IsFlagging numbers name events (n + 1) (flags ++ b ∷ [])
  flagged_more event here up_to =
      record {
        number = length_push flags b ∙ ap (λ k. k + 1) so.number;
        each = λ at it most stands.
            let was = so.each at it in
            let number = so.number in
            let last = same_at events (suc n) event it here in
            grind (arith, common_steps, gets);
      }

-- what has led to an event stands
module _ {history : List Event} {at other : ℕ} {event : Event} (stands : nth history at ≡ Some event) where
  led_stands : HasLedTo depends history at other → (it : Event) × (nth history other ≡ Some it)
  led_stands (inl e) = (event, rw e stands)
  led_stands (inr past) = in_past past
    where
      in_past : {i : ℕ} → IsInPast depends history at i → (it : Event) × (nth history i ≡ Some it)
      in_past (one_link link) = (link.cause, link.at_cause)
      in_past (link_before link rest) = (link.cause, link.at_cause)

-- all events up to the numbers are flagged, and the numbers are those of the past
pub flags_past : {history : List Event} {at : ℕ} {name : StepId} {numbers : List ℕ} {flags : List Bool} → IsFlagging numbers name history (length history) flags
    → IsNamedAt history at name → IsPastOfName history name numbers → FlagsPast history at flags
flags_past {history} {at} {name} {numbers} {flags} all named past = (all.number, λ other. (λ is. has_led other is, λ led. is_flagged other led))
  where
    has_led : (other : ℕ) → IsFlagged flags other → HasLedTo depends history at other
    has_led other is =
        let within = nth_within flags other true is in
        let few : other ≤ length history = omega (arith, all.number, within.1) in
        let it = nth_some history other within.0 few in
        (past at named other it.0 it.1).0 ((all.each other it.0 few it.1).0 is)

    is_flagged : (other : ℕ) → HasLedTo depends history at other → IsFlagged flags other
    is_flagged other led =
        let it = led_stands named.1 led in
        let within = nth_within history other it.0 it.1 in
        (all.each other it.0 within.1 it.1).1 ((past at named other it.0 it.1).1 led)
