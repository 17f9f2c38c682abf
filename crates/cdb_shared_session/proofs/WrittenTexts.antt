-- Texts that are written one after the other.
use Rattle.std.proofs.Common.{ℕ, List, ◌++◌, sym, ap, ◌∙◌, append_assoc}
use Rattle.std.proofs.KnownBytes.{Appends-trans}
use Rattle.std.specs.Prelude.{Result, Ok, Err, IsErrAnd}
use Rattle.cdb_streams.specs.Streams.{Stream, Takes, Fails, Writes, one_more}

module _ {W : Type 0} (stream : W → Stream) where
  pub takes_then : (old now new : W) (a b : List ℕ) → Takes stream old now a → Takes stream now new b → Takes stream old new (a ++ b)
  takes_then old now new a b first second =
      (Appends-trans (stream old).bytes (stream now).bytes (stream new).bytes a b first.0 second.0, second.1 ∙ first.1)

  pub fails_then : (old now new : W) (a b : List ℕ) → Takes stream old now a → Fails stream now new b → Fails stream old new (a ++ b)
  fails_then old now new a b first ((written, rest, is, added), failed) = (
    (
      a ++ written,
      rest,
      ap (λ text. a ++ text) is ∙ sym (append_assoc a written rest),
      Appends-trans (stream old).bytes (stream now).bytes (stream new).bytes a written first.0 added,
    ),
    failed ∙ ap one_more first.1,
  )

  pub fails_first : (old new : W) (a b : List ℕ) → Fails stream old new a → Fails stream old new (a ++ b)
  fails_first old new a b ((written, rest, is, added), failed) =
      ((written, rest ++ b, ap (λ text. text ++ b) is ∙ append_assoc written rest b, added), failed)

  pub writes_then : {A E : Type 0} (r : Result A E) (old now new : W) (a b : List ℕ)
      → Takes stream old now a → Writes stream r now new b → Writes stream r old new (a ++ b)
  writes_then (Ok done) old now new a b first second = takes_then old now new a b first second
  writes_then (Err failed) old now new a b first second = fails_then old now new a b first second

  -- the first of two texts failed
  pub cut_off : {A E : Type 0} (Q : E → Type 0) (r : Result A E) (old new : W) (a b : List ℕ)
      → IsErrAnd r Q → Fails stream old new a → Writes stream r old new (a ++ b)
  cut_off Q (Ok done) old new a b is failed = absurd is
  cut_off Q (Err fault) old new a b is failed = fails_first old new a b failed
