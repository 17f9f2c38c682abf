-- What readers and writers do to the bytes that are known of them.
use Rattle.std.specs.Prelude.{◌≡◌, ◌⊎◌, ℕ, ◌+◌, ◌%◌, ◌^◌, Bool, true, false, not, ◌&&◌, ◌==◌, List}
use Rattle.std.specs.Prelude.{◌++◌, length, Option, Result, Ok, Err, if◌then◌else◌, option_map}
use Rattle.std.specs.Io.KnownBytes.{Appends, Consumes, IsAtEnd}

-- A stream: of a reader the bytes that are left, of a writer those that it holds, where they are known; and how many of
-- its calls failed, in 64 bits
pub record Stream : Type 0 where
  pub bytes : Option (List ℕ)
  pub failures : ℕ

-- a program sees its streams themselves; other readers and writers have a member for what is known of them
abbrev pub itself : Stream → Stream
itself stream = stream

-- ---- readers

-- the bytes were all that was left
abbrev pub IsReadToEnd : Stream → List ℕ → Stream → Type 0
IsReadToEnd old bytes new = Consumes old.bytes new.bytes bytes × IsAtEnd new.bytes

-- the call told that the reader is at its end: it gave nothing, and the buffer is not empty
abbrev pub is_end : {E : Type 0} → Result ℕ E → List ℕ → Bool
is_end (Err e) buffer = false
is_end (Ok count) buffer = (count == 0) && not (length buffer == 0)

-- ---- failures

-- the call failed: it returned an error, or took none of a piece that is not empty
abbrev pub is_failure : {E : Type 0} → Result ℕ E → List ℕ → Bool
is_failure (Err e) piece = true
is_failure (Ok count) piece = (count == 0) && not (length piece == 0)

-- a count of failures once there is one more; it is kept in 64 bits, so after the greatest comes 0
abbrev pub one_more : ℕ → ℕ
one_more failures = (failures + 1) % 2 ^ 64

-- the count after a call
abbrev pub counted : Bool → ℕ → ℕ
counted failed failures = if failed then one_more failures else failures

-- one call of a reader or a writer failed where this holds, and else none
abbrev pub FailsWhere : {X : Type 0} → (X → Stream) → Type 0 → X → X → Type 0
FailsWhere stream Here old new =
    (Here → (stream new).failures ≡ one_more (stream old).failures)
    × ((Here → ⊥) → (stream new).failures ≡ (stream old).failures)

-- of how often a reader said that it has ended, before and after: once more at most
abbrev pub EndsOnceAtMost : Option ℕ → Option ℕ → Type 0
EndsOnceAtMost old new = (new ≡ old) ⊎ (new ≡ option_map one_more old)

-- ---- writers

-- a beginning of the text was added
abbrev pub AddsBeginning : Option (List ℕ) → Option (List ℕ) → List ℕ → Type 0
AddsBeginning old new text = (written rest : List ℕ) × (text ≡ written ++ rest) × Appends old new written

-- Of a writer before and after, each seen as a stream
module _ {W : Type 0} (stream : W → Stream) where
  -- it took the text, and no call failed
  abbrev pub Takes : W → W → List ℕ → Type 0
  Takes old new text =
      Appends (stream old).bytes (stream new).bytes text × ((stream new).failures ≡ (stream old).failures)

  -- it took a beginning of the text, and then one call failed
  abbrev pub Fails : W → W → List ℕ → Type 0
  Fails old new text =
      AddsBeginning (stream old).bytes (stream new).bytes text
      × ((stream new).failures ≡ one_more (stream old).failures)

  -- Where nothing but the writer can fail: it took the text, or it failed and took a beginning of it
  abbrev pub Writes : {A E : Type 0} → Result A E → W → W → List ℕ → Type 0
  Writes (Ok done) old new text = Takes old new text
  Writes (Err failed) old new text = Fails old new text
