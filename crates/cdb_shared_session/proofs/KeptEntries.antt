-- What a file has of a journal, piece by piece.
use Rattle.std.proofs.lemmas.Grind.{common_steps, flat_map-append}
use Rattle.std.proofs.lemmas.Option.{gets}
use Rattle.std.proofs.Common.{◌≡◌, ℕ, zero, suc, ◌-◌, ◌≤◌, List, [], ◌∷◌, ◌++◌, length, take, drop, refl}
use Rattle.std.proofs.Common.{sym, ap, ◌∙◌, arith, length-append, take-append-drop}
use Rattle.std.proofs.lemmas.List.{take-append-le}
use Rattle.std.proofs.KnownBytes.{Appends-nil}
use Rattle.std.specs.Prelude.{Option, Some, None, option_map, IfSome, IfOk, Result, Ok, Err}
use Rattle.cdb_control.specs.Journal.{Begins}
use Rattle.cdb_control.specs.declared.control.Entry.{Entry}
use Rattle.cdb_journal.specs.Journals.{entry_line, journal_text}
use Rattle.cdb_streams.specs.Endings.{whole_ending}
use Rattle.cdb_streams.specs.Streams.{Stream}
use Rattle.cdb_streams.specs.Written.{IsWritten, Only}
use Rattle.cdb_streams.specs.declared.buffer.OutputFault.{OutputFault}
use Rattle.cdb_streams.specs.declared.buffer.OutputFault.TheVariants as output
use Rattle.cdb_streams.specs.declared.sink.Failed.{Failed}
use Rattle.cdb_shared_session.specs.declared.keeping.Kept.{Kept}
use Rattle.cdb_shared_session.specs.KeptOutcomes.{AreKept, HasKept, IsKept, Keeps, kept_outcome}
use Rattle.cdb_shared_session.proofs.WrittenTexts.{takes_then, fails_then, fails_first}

-- the entries from one number on, up to another and then those behind it
cut : (xs : List Entry) (a b : ℕ) → a ≤ b → drop a xs ≡ drop a (take b xs) ++ drop b xs
cut xs zero b low = sym (take-append-drop b xs)
cut xs (suc a) zero low = absurd (omega arith)
cut [] (suc a) (suc b) low = refl
cut (x ∷ xs) (suc a) (suc b) low = cut xs a b (omega arith)

front : (xs ys zs : List Entry) (b n : ℕ) → zs ≡ xs ++ ys → b ≤ length xs → b ≤ n → take b (take n zs) ≡ take b xs
front xs ys zs b n is some high = grind (arith, common_steps, gets)

-- the same, where the first ones are those that were seen before
rest : (xs ys zs : List Entry) (a b : ℕ) → zs ≡ xs ++ ys → a ≤ b → b ≤ length xs → drop a zs ≡ drop a (take b xs) ++ drop b zs
rest xs ys zs a b is low some = cut zs a b low ∙ ap (λ l. drop a l ++ drop b zs) (ap (take b) is ∙ take-append-le b xs ys some)

parts : (xs ys zs : List Entry) (a b n : ℕ) → zs ≡ xs ++ ys → a ≤ b → b ≤ length xs → b ≤ n → drop a (take n zs) ≡ drop a (take b xs) ++ drop b (take n zs)
parts xs ys zs a b n is low some high = cut (take n zs) a b low ∙ ap (λ l. drop a l ++ drop b (take n zs)) (front xs ys zs b n is some high)

none_between : (xs : List Entry) (a : ℕ) → drop a (take a xs) ≡ []
none_between xs a = grind (arith, common_steps, gets)

-- what is behind the first entries, as a slice
pub behind : (xs : List Entry) (n : ℕ) → take (length xs - n) (drop n xs) ≡ drop n xs
behind xs n = grind (arith, common_steps, gets)

texts : (xs ys : List Entry) → journal_text (xs ++ ys) ≡ journal_text xs ++ journal_text ys
texts xs ys = flat_map-append entry_line xs ys

module _ {J : Type 0} (stream : J → Stream) where
  -- at first nothing is kept
  pub keeps_none : (file : J) (from : ℕ) (seen : List Entry) → from ≤ length seen → Keeps stream file file from (Ok from) seen
  keeps_none file from seen low = (omega arith, low, rw (none_between seen from) (Appends-nil (stream file).bytes, refl))

  pub kept_at_first : (file : Option J) (seen : List Entry) → AreKept stream file file (Ok 0) seen
  kept_at_first None seen = tt
  kept_at_first (Some file) seen = keeps_none file 0 seen (omega arith)

  -- what was kept before, and what was kept of what was seen then
  pub keeps_then : (old mid new : J) (from to : ℕ) (r : Result ℕ Failed) (before seen : List Entry)
      → Keeps stream old mid from (Ok to) before → Begins before seen
      → Keeps stream mid new to r seen → Keeps stream old new from r seen
  keeps_then old mid new from to (Ok last) before seen first (more, is) second = (
    omega (arith, first.0, second.0),
    second.1,
    rw (parts before more seen from to last is first.0 first.1 second.0, texts) (takes_then stream old mid new _ _ first.2 second.2),
  )
  keeps_then old mid new from to (Err failed) before seen first (more, is) second =
      rw (rest before more seen from to is first.0 first.1, texts) (fails_then stream old mid new _ _ first.2 second)

  pub keeps_on : (file new : J) (to : ℕ) (r : Result ℕ Failed) (before seen : List Entry) → Begins before seen → Keeps stream file new to r seen
      → (old : Option J) → AreKept stream old (Some file) (Ok to) before → AreKept stream old (Some new) r seen
  keeps_on file new to r before seen begins kept None first = absurd first
  keeps_on file new to r before seen begins kept (Some old) first = keeps_then old file new 0 to r before seen first begins kept

  -- not more was kept than there is
  pub may_add : (old new : Option J) (count : Result ℕ Failed) (seen journal : List Entry) → Begins seen journal
      → AreKept stream old new count seen → IfSome new (λ _. IfOk count (λ n. n ≤ length journal))
  may_add None (Some new) count seen journal begins kept = absurd kept
  may_add (Some old) (Some new) (Ok n) seen journal begins kept = omega (arith, kept.1, ap length begins.1 ∙ length-append seen begins.0)
  may_add old new count seen journal begins kept = tt

  -- the rest of the journal was added
  pub kept_rest : (old file new : J) (count : ℕ) (r : Result (Unit {0}) OutputFault) (seen journal : List Entry)
      → Begins seen journal → Keeps stream old file 0 (Ok count) seen
      → IsWritten stream (whole_ending r) file new (Only (journal_text (drop count journal))) → IsKept stream r old new journal
  kept_rest old file new count (Ok done) seen journal (more, begins) first (text, is, taken) =
      rw (rest seen more journal 0 count begins first.0 first.1, texts) (takes_then stream old file new _ _ first.2 (rw is at taken))
  kept_rest old file new count (Err output.Write) seen journal (more, begins) first (text, is, failed) =
      rw (rest seen more journal 0 count begins first.0 first.1, texts) (fails_then stream old file new _ _ first.2 (rw is at failed))
  kept_rest old file new count (Err (output.NoMemory refused)) seen journal (more, begins) first same =
      (take count seen, drop count journal, rest seen more journal 0 count begins first.0 first.1, rw same first.2)

  -- what was kept of a journal, of a longer one
  pub keeps_longer : (old new : J) (r : Result ℕ Failed) (seen more : List Entry)
      → Keeps stream old new 0 r seen → Begins seen more → Keeps stream old new 0 r more
  keeps_longer old new (Ok n) seen more first begins =
      keeps_then old new new 0 n (Ok n) seen more first begins
      (keeps_none new n more (omega (arith, first.1, ap length begins.1 ∙ length-append seen begins.0)))
  keeps_longer old new (Err failed) seen more broken begins =
      rw (begins.1, texts) (fails_first stream old new (journal_text seen) (journal_text begins.0) broken)

-- ---- what is known of the file

module _ {J : Type 0} (stream : J → Stream) where
  abbrev pub seen_kept : Kept J → Kept Stream
  seen_kept kept = record { file = stream kept.file; outcome = kept.outcome }

  pub seen_is : (r : Result (Unit {0}) OutputFault) (old new : J) (journal : List Entry)
      → IsKept stream r old new journal → IsKept (λ (s : Stream). s) r (stream old) (stream new) journal
  seen_is (Err output.Write) old new journal kept = kept
  seen_is r old new journal kept = kept

  pub kept_seen : (file : Option J) (kept : Option (Kept J)) (journal : List Entry) → HasKept stream file kept journal
      → HasKept (λ (s : Stream). s) (option_map stream file) (option_map seen_kept kept) journal
  kept_seen None None journal has = tt
  kept_seen (Some file) (Some kept) journal has = seen_is kept.outcome file kept.file journal has
  kept_seen file kept journal has = absurd has

  pub outcome_seen : (kept : Option (Kept J)) → kept_outcome (option_map seen_kept kept) ≡ kept_outcome kept
  outcome_seen None = refl
  outcome_seen (Some kept) = refl
