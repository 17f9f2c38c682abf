-- A page keeps up with its journal as that grows.
use Rattle.std.proofs.Common.{◌≡◌, ◌∙◌, ◌⊎◌, inl, inr, ℕ, zero, suc, ◌<◌, ◌≤◌, List, [], ◌∷◌, ◌++◌, length, take, drop, Option, length-take-le, All, IfErr}
use Rattle.std.proofs.Common.{None, Some, Result, Ok, Err, refl, sym, ap, arith, append_assoc, append-nil, length-append, IfOk, IfSome, option_map}
use Rattle.std.specs.Io.{WritesAtMost}
use Rattle.std.specs.Result.{result_unwrap_or}
use Rattle.std.proofs.KnownBytes.{Appends-nil, Appends-trans}
use Rattle.std.proofs.Math.Seq.{drop-append_seam, take-append_seam}
use Rattle.std.proofs.lemmas.List.Elements.{All-append, All-cons, All-nil, All-weaker}
use Rattle.cdb_explain.specs.declared.fault.AnswerFault.{AnswerFault}
use Rattle.cdb_streams.specs.Streams.{Stream}
use Rattle.cdb_streams.specs.declared.sink.Failed.{Failed}
use Rattle.cdb_page.specs.Live.{EndsWithPage, HasFileTaken, IsFaultOfShow, IsMadeWith, IsPageSoFar, IsToCome, KeepsUp, Live, Shows}
use Rattle.cdb_page.specs.Live.{ShowsLines, Versions, journal_so_far, known_file, known_text, made_with, taken_of}
use Rattle.cdb_page.specs.OfJournals.{IsPageOfJournal}

-- ---- what the file of the journal took

pub took_some : (text piece : List ℕ) (written : Result ℕ Failed) → WritesAtMost written piece
    → 0 < result_unwrap_or written 0 → 0 < length (text ++ taken_of written piece)
took_some text piece (Ok count) within some = omega (arith, length-append text (take count piece), length-take-le count piece within)
took_some text piece (Err failed) within some = absurd (omega arith)

pub took_none : (text piece : List ℕ) (written : Result ℕ Failed) → result_unwrap_or written 0 ≤ 0 → text ++ taken_of written piece ≡ text
took_none text piece (Ok zero) none = append-nil text
took_none text piece (Ok (suc count)) none = absurd (omega arith)
took_none text piece (Err failed) none = append-nil text

pub file_took_none : (file : Option Stream) → HasFileTaken file file []
file_took_none None = tt
file_took_none (Some file) = Appends-nil file.bytes

pub file_took_more : (first old new : Option Stream) (text more : List ℕ) → HasFileTaken first old text → HasFileTaken old new more
    → HasFileTaken first new (text ++ more)
file_took_more None None None text more a b = tt
file_took_more None None (Some new) text more a b = absurd b
file_took_more None (Some old) new text more a b = absurd a
file_took_more (Some first) None new text more a b = absurd a
file_took_more (Some first) (Some old) None text more a b = absurd b
file_took_more (Some first) (Some old) (Some new) text more a b = Appends-trans first.bytes old.bytes new.bytes text more a b

-- ---- what the file of the page had

more_of_page : (json from taken more page : List ℕ) → IsPageSoFar json from taken page → IsPageSoFar json from (taken ++ more) page
more_of_page json from taken more page (inl is) = inl is
more_of_page json from taken more page (inr (lines, (ends, (rest, is)), paged)) =
    inr (lines, (ends, (rest ++ more, ap (λ (text : List ℕ). text ++ more) is ∙ append_assoc lines rest more)), paged)

each_still : (json from taken more : List ℕ) (texts : Option (List (List ℕ))) → IfSome texts (All (IsPageSoFar json from taken))
    → IfSome texts (All (IsPageSoFar json from (taken ++ more)))
each_still json from taken more None each = tt
each_still json from taken more (Some texts) each =
    All-weaker (IsPageSoFar json from taken) (IsPageSoFar json from (taken ++ more)) (more_of_page json from taken more) texts each

none_yet : (json from : List ℕ) (texts : Option (List (List ℕ))) → IfSome texts (λ texts. texts ≡ [])
    → IfSome texts (All (IsPageSoFar json from []))
none_yet json from None empty = tt
none_yet json from (Some texts) empty = rw empty (All-nil (IsPageSoFar json from []))

-- with a page behind them
abbrev with_page : List ℕ → Option (List (List ℕ)) → Option (List (List ℕ))
with_page page texts = option_map (λ (before : List (List ℕ)). before ++ page ∷ []) texts

each_too : (json from taken page : List ℕ) (texts : Option (List (List ℕ))) → IsPageSoFar json from taken page
    → IfSome texts (All (IsPageSoFar json from taken)) → IfSome (with_page page texts) (All (IsPageSoFar json from taken))
each_too json from taken page None is each = tt
each_too json from taken page (Some texts) is each =
    All-append (IsPageSoFar json from taken) texts (page ∷ []) each
    (All-cons (IsPageSoFar json from taken) page [] is (All-nil (IsPageSoFar json from taken)))

last_is : (json journal page : List ℕ) (texts : Option (List (List ℕ))) → IsPageOfJournal json journal page
    → IfSome (with_page page texts) (EndsWithPage json journal)
last_is json journal page None is = tt
last_is json journal page (Some texts) is = (texts, page, refl, is)

-- ---- the whole

pub so_far : (from text : List ℕ) → 0 < length text → journal_so_far from text ≡ text
so_far from [] some = absurd (omega arith)
so_far from (byte ∷ text) some = refl

-- it took no more of the journal
pub keeps_up_still : (it : Live) (taken : List ℕ) (failures : ℕ) (journal : Option Stream) → KeepsUp it → taken ≡ it.taken
    → HasFileTaken it.journal_before journal taken → KeepsUp (record it { taken = taken; failures = failures; journal = journal })
keeps_up_still it taken failures journal up same has = record {
  journal = has;
  each = rw same up.each;
  last = rw same up.last;
  fault = rw same up.fault;
}

-- what it took has the page that was written
pub keeps_up_on : (it : Live) (more taken : List ℕ) (failures : ℕ) (journal : Option Stream) (versions : Versions) (outcome : Result (Unit {0}) AnswerFault)
    → KeepsUp it → taken ≡ it.taken ++ more → HasFileTaken it.journal journal more → 0 < length taken
    → ShowsLines it.json taken it.versions versions outcome
    → KeepsUp (record it { taken = taken; failures = failures; journal = journal; versions = versions; outcome = outcome })
keeps_up_on it more taken failures journal versions (Ok done) up same has some (ends, (page, is, versions_are)) = record {
  journal = rw same (file_took_more it.journal_before it.journal journal it.taken more up.journal has);
  each =
      rw versions_are
      (each_too it.json it.from taken page (it.versions).texts (inr (taken, (ends, ([], sym (append-nil taken))), is))
      (rw same (each_still it.json it.from it.taken more (it.versions).texts up.each)));
  last = rw (versions_are, so_far it.from taken some) (last_is it.json taken page (it.versions).texts is);
  fault = tt;
}
keeps_up_on it more taken failures journal versions (Err why) up same has some (texts_are, because) = record {
  journal = rw same (file_took_more it.journal_before it.journal journal it.taken more up.journal has);
  each = rw (texts_are, same) (each_still it.json it.from it.taken more (it.versions).texts up.each);
  last = tt;
  fault = rw (so_far it.from taken some) because;
}

-- at the beginning
pub keeps_up_first : (json from taken : List ℕ) (failures : ℕ) (journal : Option Stream) (old new : Versions) (outcome : Result (Unit {0}) AnswerFault)
    → taken ≡ [] → IfSome old.texts (λ texts. texts ≡ []) → Shows json from old new outcome
    → KeepsUp (record {
      json = json;
      from = from;
      taken = taken;
      failures = failures;
      journal_before = journal;
      journal = journal;
      versions = new;
      outcome = outcome;
    })
keeps_up_first json from taken failures journal old new (Ok done) none empty (page, is, new_is) =
    rw none
    (record {
      journal = file_took_none journal;
      each = rw new_is (each_too json from [] page old.texts (inl is) (none_yet json from old.texts empty));
      last = rw new_is (last_is json from page old.texts is);
      fault = tt;
    })
keeps_up_first json from taken failures journal old new (Err why) none empty (texts_are, because) =
    rw none (record { journal = file_took_none journal; each = rw texts_are (none_yet json from old.texts empty); last = tt; fault = inl because })

-- ---- what it was made with

first_of : List ℕ → ℕ
first_of [] = 0
first_of (byte ∷ text) = byte

rest_of : List ℕ → List ℕ
rest_of [] = []
rest_of (byte ∷ text) = text

same_front : (a b x y : List ℕ) → length a ≡ length b → a ++ x ≡ b ++ y → (a ≡ b) × (x ≡ y)
same_front a b x y long is = (
  sym (take-append_seam a x) ∙ ap (take (length a)) is ∙ ap (λ (n : ℕ). take n (b ++ y)) long ∙ take-append_seam b y,
  sym (drop-append_seam a x) ∙ ap (drop (length a)) is ∙ ap (λ (n : ℕ). drop n (b ++ y)) long ∙ drop-append_seam b y,
)

same_setup : (json from text its_json its_from its_text : List ℕ)
    → ((length its_json ∷ its_json) ++ (length its_from ∷ its_from)) ++ its_text ≡ ((length json ∷ json) ++ (length from ∷ from)) ++ text
    → (its_json ≡ json) × (its_from ≡ from) × (its_text ≡ text)
unfolding first_of rest_of
same_setup json from text its_json its_from its_text is =
    let one = same_front its_json json ((length its_from ∷ its_from) ++ its_text) ((length from ∷ from) ++ text) (ap first_of is)
    (sym (append_assoc its_json (length its_from ∷ its_from) its_text) ∙ ap rest_of is ∙ append_assoc json (length from ∷ from) text) in
    let two = same_front its_from from its_text text (ap first_of one.1) (ap rest_of one.1) in
    (one.0, two.0, two.1)

same_known : (its known : Option (List ℕ)) (its_rest rest : List ℕ) → known_text its ++ its_rest ≡ known_text known ++ rest
    → (its ≡ known) × (its_rest ≡ rest)
unfolding first_of rest_of
same_known None None its_rest rest is = (refl, ap rest_of is)
same_known None (Some text) its_rest rest is = absurd (omega (arith, ap first_of is))
same_known (Some text) None its_rest rest is = absurd (omega (arith, ap first_of is))
same_known (Some its) (Some text) its_rest rest is =
    let behind = ap rest_of is in
    let same = same_front its text its_rest rest (ap first_of behind) (ap rest_of behind) in
    (ap (λ (text : List ℕ). Some text) same.0, same.1)

same_file : (its file : Option Stream) (its_rest rest : List ℕ) → known_file its ++ its_rest ≡ known_file file ++ rest
    → (its ≡ file) × (its_rest ≡ rest)
unfolding first_of rest_of
same_file None None its_rest rest is = (refl, ap rest_of is)
same_file None (Some file) its_rest rest is = absurd (omega (arith, ap first_of is))
same_file (Some its) None its_rest rest is = absurd (omega (arith, ap first_of is))
same_file (Some its) (Some file) its_rest rest is =
    let behind = ap rest_of is in
    let same = same_known its.bytes file.bytes its_rest rest (ap rest_of behind) in
    let whole : Option (List ℕ) → ℕ → Option Stream = λ bytes failures. Some (record { bytes = bytes; failures = failures }) in
    (ap (λ bytes. whole bytes its.failures) same.0 ∙ ap (λ failures. whole file.bytes failures) (ap first_of behind), same.1)

-- what holds the same at its beginning was made with the same, and then it holds the same too
pub made_with_same : (it : Live) (file : Option Stream) (json from text : List ℕ)
    → made_with it.journal_before it.json it.from ++ it.taken ≡ made_with file json from ++ text
    → IsMadeWith file json from it × (it.taken ≡ text)
made_with_same it file json from text is =
    let its_setup = (length it.json ∷ it.json) ++ (length it.from ∷ it.from) in
    let setup = (length json ∷ json) ++ (length from ∷ from) in
    let one = same_file it.journal_before file (its_setup ++ it.taken) (setup ++ text)
    (sym (append_assoc (known_file it.journal_before) its_setup it.taken) ∙ is ∙ append_assoc (known_file file) setup text) in
    let two = same_setup json from text it.json it.from it.taken one.1 in
    (record { file_is = one.0; json_is = two.0; from_is = two.1 }, two.2)
