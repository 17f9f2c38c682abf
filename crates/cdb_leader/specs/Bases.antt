-- What a message or a choice of the leader machine rests on.
--
-- `sent x` says that a process has sent the payload x, `heard s x` that it has received x from s. Nothing else of a
-- process matters here, and nothing of how the two are kept.
use Rattle.std.specs.Prelude.{◌≡◌, ℕ, Option, Some, None, ◌⊎◌}
use Rattle.cdb_base.specs.declared.payload.Payload.{Payload}
use Rattle.cdb_base.specs.declared.payload.Payload.TheVariants.{P1, P2, D}
use Rattle.cdb_leader.specs.Quorum.{IsQuorum}

-- a quorum named one leader in the first phase of round r, and that leader's own estimate there was v
pub record AuxBasis (q : ℕ) (heard : ℕ → Payload → Type 0) (r v : ℕ) : Type 0 where
  pub leader : ℕ
  pub named : ℕ
  pub quorum : IsQuorum q (λ s. (e : ℕ) × heard s (P1 r e leader))
  pub estimate : heard leader (P1 r v named)

-- somebody voted e in the second phase of round r
abbrev pub Carried : (ℕ → Payload → Type 0) → ℕ → ℕ → Type 0
Carried heard r e = (c : ℕ) × heard c (P2 r (Some e))

-- s has voted in the second phase of round r: none, or somebody voted e
abbrev pub Voted : (ℕ → Payload → Type 0) → ℕ → ℕ → ℕ → Type 0
Voted heard r e s = (a : Option ℕ) × heard s (P2 r a) × ((a ≡ None) ⊎ Carried heard r e)

-- a quorum voted in the second phase of round r, and e was voted, or is what the process proposed there itself where
-- all of that quorum voted none
pub record LeaveBasis (q : ℕ) (sent : Payload → Type 0) (heard : ℕ → Payload → Type 0) (r e : ℕ) : Type 0 where
  pub quorum : IsQuorum q (Voted heard r e)
  pub value : Carried heard r e ⊎ ((l : ℕ) × sent (P1 r e l))

-- a quorum voted v in the second phase of round r
abbrev pub VotedAlike : ℕ → (ℕ → Payload → Type 0) → ℕ → ℕ → Type 0
VotedAlike q heard r v = IsQuorum q (λ s. heard s (P2 r (Some v)))

-- a decision message with v, or a quorum that voted v in the second phase of one round
abbrev pub DecisionBasis : ℕ → (ℕ → Payload → Type 0) → ℕ → Type 0
DecisionBasis q heard v = ((s : ℕ) × heard s (D v)) ⊎ ((r : ℕ) × VotedAlike q heard r v)
