-- Texts that are put one after the other.
use Rattle.std.proofs.Common.{◌≡◌, ℕ, ◌+◌, ◌<◌, List, [], ◌++◌, length, take, drop, get_or, Result, Ok, Err, refl}
use Rattle.std.proofs.Common.{inr, sym, ap, ◌∙◌, append_assoc, append-nil, length-append, arith}
use Rattle.std.proofs.KnownBytes.{Appends-nil, Appends-trans}
use Rattle.cdb_streams.specs.Buffers.{AreWholePieces, IsPut}
use Rattle.cdb_streams.specs.PiecesPut.{PutsBeginning, Puts}
use Rattle.cdb_streams.specs.Endings.{pieces_ending}
use Rattle.cdb_streams.specs.Streams.{Stream, Takes, Fails, one_more}
use Rattle.cdb_streams.specs.Written.{IsWritten, Only}
use Rattle.cdb_streams.specs.declared.buffer.OutputFault.{OutputFault}
use Rattle.cdb_streams.specs.declared.buffer.OutputFault.TheVariants.{Write, NoMemory}
use Rattle.cdb_streams.proofs.Added.{beginning_of_all, one_more_text, parted_texts}
use Rattle.std.specs.List.{flat_map}

no_piece : AreWholePieces []
no_piece = (0, refl)

pub pieces_and_pieces : (first second : List ℕ) → AreWholePieces first → AreWholePieces second → AreWholePieces (first ++ second)
pieces_and_pieces first second a b = (a.0 + b.0, omega (arith, length-append first second, a.1, b.1))

module _ {W : Type 0} (stream : W → Stream) where
  abbrev Put : W → List ℕ → W → List ℕ → List ℕ → Type 0
  Put = IsPut stream

  -- what is put stays in the buffer
  pub stays : (out : W) (held new text : List ℕ) → new ≡ held ++ text → Put out held out new text
  stays out held new text is = record { sent = []; pieces = no_piece; is = sym is; taken = (Appends-nil (stream out).bytes, refl) }

  pub put_nothing : (out : W) (held : List ℕ) → Put out held out held []
  put_nothing out held = stays out held held [] (sym (append-nil held))

  -- one text after the other
  pub put_more : (old now new : W) (held middle left first second : List ℕ) → Put old held now middle first
      → Put now middle new left second → Put old held new left (first ++ second)
  put_more old now new held middle left first second a b =
      record {
        sent = a.sent ++ b.sent;
        pieces = pieces_and_pieces a.sent b.sent a.pieces b.pieces;
        is = rw (← append_assoc held first second, a.is, append_assoc a.sent middle second, b.is) (sym (append_assoc a.sent b.sent left));
        taken = (Appends-trans (stream old).bytes (stream now).bytes (stream new).bytes a.sent b.sent a.taken.0 b.taken.0, b.taken.1 ∙ a.taken.1);
      }

  -- what was put is sent, and then a call fails
  pub fails_after : (old now new : W) (held middle first text rest more all : List ℕ)
      → Put old held now middle first → middle ++ rest ≡ text ++ more → all ≡ first ++ rest → Fails stream now new text
      → Fails stream old new (held ++ all)
  fails_after old now new held middle first text rest more all a is whole fails = (
    beginning_of_all (stream old).bytes (stream now).bytes (stream new).bytes a.sent text more (held ++ all) a.taken.0
        (rw (whole, ← append_assoc held first rest, a.is, append_assoc a.sent middle rest, is) refl) fails.0,
    fails.1 ∙ ap one_more a.taken.1,
  )

  -- the middle text of three is not put whole
  pub cut_short : (A : Type 0) (why : OutputFault) (old now new : W) (held middle left before text after all : List ℕ)
      → Put old held now middle before → all ≡ before ++ (text ++ after)
      → Puts stream {A = A} (Err why) now middle new left text → Puts stream {A = A} (Err why) old held new left all
  cut_short A Write old now new held middle left before text after all a whole fails =
      fails_after old now new held middle before (middle ++ text) (text ++ after) after all a (sym (append_assoc middle text after)) whole fails
  cut_short A (NoMemory refused) old now new held middle left before text after all a whole part =
      record {
        before = before ++ part.before;
        rest = part.rest ++ after;
        whole = whole ∙ rw part.whole (simp append_assoc);
        put = put_more old now new held middle left before part.before a part.put;
      }

  -- the last of two texts, by how it ended
  pub put_last : {A : Type 0} (outcome : Result A OutputFault) (old now new : W) (held middle left before text all : List ℕ)
      → Put old held now middle before → all ≡ before ++ text
      → Puts stream outcome now middle new left text → Puts stream outcome old held new left all
  put_last {A} (Ok done) old now new held middle left before text all a whole b = rw whole (put_more old now new held middle left before text a b)
  put_last {A} (Err why) old now new held middle left before text all a whole b =
      cut_short A why old now new held middle left before text [] all a (whole ∙ ap (λ (t : List ℕ). before ++ t) (sym (append-nil text))) b

  -- what is left is written at the end, or a call fails then
  pub written_at_end : (old now new : W) (left text : List ℕ) → Put old [] now left text → Takes stream now new left → Takes stream old new text
  written_at_end old now new left text a took =
      rw a.is (Appends-trans (stream old).bytes (stream now).bytes (stream new).bytes a.sent left a.taken.0 took.0, took.1 ∙ a.taken.1)

  pub fails_at_end : (old now new : W) (left text : List ℕ) → Put old [] now left text → Fails stream now new left → Fails stream old new text
  fails_at_end old now new left text a fails = fails_after old now new [] left text left [] [] text a refl (sym (append-nil text)) fails

  -- what a fault leaves written
  pub left_written : (A : Type 0) (why : OutputFault) (old new : W) (left text : List ℕ)
      → Puts stream {A = A} (Err why) old [] new left text → IsWritten stream (pieces_ending {A = A} (Err why)) old new (Only text)
  left_written A Write old new left text fails = (text, refl, fails)
  left_written A (NoMemory refused) old new left text part =
      inr (
        text,
        refl,
        (
          part.put.sent,
          left ++ part.rest,
          rw (part.whole, part.put.is) (append_assoc part.put.sent left part.rest),
          part.put.pieces,
          part.put.taken,
        ),
      )

  -- nothing was put
  pub puts_nothing : (out : W) (held text : List ℕ) → PutsBeginning stream out held out held text
  puts_nothing out held text = record { before = []; rest = text; whole = refl; put = put_nothing out held }

  -- the text of one item more is put
  pub put_item : {X : Type 0} (texts : X → List ℕ) (old now new : W) (held middle left : List ℕ) (xs : List X) (i : ℕ) (d : X)
      → i < length xs → Put old held now middle (flat_map texts (take i xs)) → Put now middle new left (texts (get_or xs i d))
      → Put old held new left (flat_map texts (take (i + 1) xs))
  put_item texts old now new held middle left xs i d below a b =
      rw (one_more_text texts xs i d below) (put_more old now new held middle left (flat_map texts (take i xs)) (texts (get_or xs i d)) a b)

  -- the text of one item is cut short
  pub cut_at_item : {X : Type 0} (A : Type 0) (why : OutputFault) (texts : X → List ℕ) (old now new : W)
      (held middle left : List ℕ) (xs : List X) (i : ℕ) (d : X) → i < length xs → Put old held now middle (flat_map texts (take i xs))
      → Puts stream {A = A} (Err why) now middle new left (texts (get_or xs i d)) → Puts stream {A = A} (Err why) old held new left (flat_map texts xs)
  cut_at_item A why texts old now new held middle left xs i d below a b =
      cut_short A why old now new held middle left (flat_map texts (take i xs)) (texts (get_or xs i d))
      (flat_map texts (drop (i + 1) xs)) (flat_map texts xs) a (parted_texts texts xs i d below) b
