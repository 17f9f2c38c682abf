-- Files are opened one after the other.
use Rattle.std.proofs.Common.{◌≡◌, ℕ, ◌+◌, ◌<◌, List, [], ◌∷◌, ◌++◌, length, get_or, take, drop, Option, Some, None}
use Rattle.std.proofs.Common.{Bor, Vec, Global, refl, sym, ap, subst, ◌∙◌, append_assoc, append-nil, take-append-drop}
use Rattle.std.specs.Prelude.{option_map}
use Rattle.std.proofs.lemmas.List.{map-append, take_more}
use Rattle.std.specs.List.{AllZip}
use Rattle.cdb_streams.specs.Faults.{of_reading}
use Rattle.cdb_play.specs.Races.{bytes_of}
use Rattle.cdb_streams.specs.declared.fault.PlayFault.{PlayFault}
use Rattle.cdb_streams.specs.declared.fault.PlayFault.TheVariants as play
use Rattle.cdb_streams.specs.declared.source.ReadFault.{ReadFault}
use Rattle.cdb_streams.specs.declared.source.ReadFault.TheVariants as reading
use Rattle.cdb_base.specs.Requests.{any_text, texts}
use Rattle.cdb_program.specs.Known.{FilesSeen, after_opening, after_failing, any_name}
use Rattle.cdb_program.specs.FilesRead.{AreFirstBytes, FailsToOpen, FailsToRead, HasRead, most_read}
use Rattle.cdb_program.specs.declared.fault.Fault.{Fault}
use Rattle.cdb_program.specs.declared.fault.Fault.TheVariants.{Play}

-- names are added to those that are known
more_opened : (opened : Option (List (List ℕ))) (first second : List (List ℕ))
    → option_map (λ before. before ++ second) (option_map (λ before. before ++ first) opened) ≡ option_map (λ before. before ++ (first ++ second)) opened
more_opened None first second = refl
more_opened (Some before) first second = ap (λ (l : List (List ℕ)). Some l) (append_assoc before first second)

none_opened : (opened : Option (List (List ℕ))) → option_map (λ before. before ++ []) opened ≡ opened
none_opened None = refl
none_opened (Some before) = ap (λ (l : List (List ℕ)). Some l) (append-nil before)

opened_none : (files : FilesSeen) → after_opening files [] ≡ files
opened_none files = ap (λ (o : Option (List (List ℕ))). record files { opened = o }) (none_opened files.opened)

-- what was opened later is opened after what was opened before
pub opened_then : (old mid new : FilesSeen) (first second : List (List ℕ)) → mid ≡ after_opening old first
    → new ≡ after_opening mid second → new ≡ after_opening old (first ++ second)
opened_then old mid new first second before after =
    after ∙ ap (λ (f : FilesSeen). after_opening f second) before
    ∙ ap (λ (o : Option (List (List ℕ))). record old { opened = o }) (more_opened old.opened first second)

failed_then : (old mid new : FilesSeen) (first second : List (List ℕ)) → mid ≡ after_opening old first
    → new ≡ after_failing mid second → new ≡ after_failing old (first ++ second)
failed_then old mid new first second before after =
    after ∙ ap (λ (f : FilesSeen). after_failing f second) before
    ∙ ap (λ (o : Option (List (List ℕ))). record (after_failing old second) { opened = o }) (more_opened old.opened first second)

-- ---- one file

-- nothing was read
pub read_none : (files : FilesSeen) → HasRead files files [] []
read_none files = (sym (opened_none files), tt)

-- what this names can't be opened
pub fails_one : (old new : FilesSeen) (name : Bor (List ℕ)) (fault : ReadFault)
    → FailsToOpen old new name.now fault → FailsToRead old new (name.now ∷ []) (Play (of_reading fault) name)
fails_one old new name reading.Failed failed = ([], [], refl, failed)
fails_one old new name (reading.NoMemory refused) same = ([], name.now ∷ [], refl, same ∙ sym (opened_none old))

-- nor where it may be left out
pub fails_any : (old new : FilesSeen) (name : Option (Bor (List ℕ))) (given : Bor (List ℕ)) (fault : ReadFault) (why : PlayFault)
    → name ≡ Some given → why ≡ of_reading fault → FailsToOpen old new given.now fault
    → FailsToRead old new (any_name (any_text name)) (Play why given)
fails_any old new name given fault why is so failed =
    rw so (subst (λ (n : Option (Bor (List ℕ))). FailsToRead old new (any_name (any_text n)) (Play (of_reading fault) given)) (sym is)
    (fails_one old new given fault failed))

-- ---- files after others

pub AllZip-append : {A B : Type 0} (R : A → B → Type 0) (first second : List A) (a b : List B) → AllZip R first a → AllZip R second b
    → AllZip R (first ++ second) (a ++ b)
AllZip-append R [] second [] b before after = after
AllZip-append R [] second (y ∷ a) b before after = absurd before
AllZip-append R (x ∷ first) second [] b before after = absurd before
AllZip-append R (x ∷ first) second (y ∷ a) b before after = (before.0, AllZip-append R first second a b before.1 after)

pub read_then : (old mid new : FilesSeen) (first second a b : List (List ℕ))
    → HasRead old mid first a → HasRead mid new second b → HasRead old new (first ++ second) (a ++ b)
read_then old mid new first second a b before after = (
  opened_then old mid new first second before.0 after.0,
  AllZip-append (AreFirstBytes old most_read) first second a b before.1
      (subst (λ (f : FilesSeen). AllZip (AreFirstBytes f most_read) second b) before.0 after.1),
)

-- others were opened before it
pub fails_later : (old mid new : FilesSeen) (first second : List (List ℕ)) (fault : Fault)
    → mid ≡ after_opening old first → FailsToRead mid new second fault → FailsToRead old new (first ++ second) fault
fails_later old mid new first second (Play play.Read name) before (good, rest, whole, failed) = (
  first ++ good,
  rest,
  rw (whole, append_assoc first good (name.now ∷ rest)) refl,
  rw (append_assoc first good (name.now ∷ [])) (failed_then old mid new first (good ++ name.now ∷ []) before failed),
)
fails_later old mid new first second (Play (play.NoMemory refused) name) before (good, rest, whole, opened) =
    (first ++ good, rest, rw (whole, append_assoc first good rest) refl, opened_then old mid new first good before opened)
fails_later old mid new first second other before fails = absurd fails

-- and others were to be read after it
pub fails_before : (old new : FilesSeen) (names after : List (List ℕ)) (fault : Fault)
    → FailsToRead old new names fault → FailsToRead old new (names ++ after) fault
fails_before old new names after (Play play.Read name) (good, rest, whole, failed) =
    (good, rest ++ after, rw (whole, append_assoc good (name.now ∷ rest) after) refl, failed)
fails_before old new names after (Play (play.NoMemory refused) name) (good, rest, whole, opened) =
    (good, rest ++ after, rw (whole, append_assoc good rest after) refl, opened)
fails_before old new names after other fails = absurd fails

-- ---- names in a list

module _ (names : List (Bor (List ℕ))) (i : ℕ) (d : Bor (List ℕ)) (below : i < length names) where
  pub one_more_name : texts (take (i + 1) names) ≡ texts (take i names) ++ (get_or names i d).now ∷ []
  one_more_name = ap texts (take_more names i d below) ∙ map-append (λ (n : Bor (List ℕ)). n.now) (take i names) (get_or names i d ∷ [])

-- the first of them and then the others
pub taken_and_left : (names : List (Bor (List ℕ))) (i : ℕ) → texts names ≡ texts (take i names) ++ texts (drop i names)
taken_and_left names i = ap texts (sym (take-append-drop i names)) ∙ map-append (λ (n : Bor (List ℕ)). n.now) (take i names) (drop i names)

pub bytes_more : (vectors : List (Vec ℕ Global)) (vector : Vec ℕ Global) → bytes_of (vectors ++ vector ∷ []) ≡ bytes_of vectors ++ vector.items ∷ []
bytes_more vectors vector = map-append (λ (v : Vec ℕ Global). v.items) vectors (vector ∷ [])

-- the one at this position of a list can't be opened
pub fails_at : (old mid new : FilesSeen) (names : List (Bor (List ℕ))) (i : ℕ) (d : Bor (List ℕ)) (fault : Fault)
    → i < length names → mid ≡ after_opening old (texts (take i names))
    → FailsToRead mid new ((get_or names i d).now ∷ []) fault → FailsToRead old new (texts names) fault
fails_at old mid new names i d fault below before fails =
    rw (taken_and_left names (i + 1), one_more_name names i d below)
    (fails_before old new (texts (take i names) ++ (get_or names i d).now ∷ []) (texts (drop (i + 1) names)) fault
    (fails_later old mid new (texts (take i names)) ((get_or names i d).now ∷ []) fault before fails))

-- it was opened too
pub opened_at : (old mid new : FilesSeen) (names : List (Bor (List ℕ))) (i : ℕ) (d : Bor (List ℕ)) → i < length names
    → mid ≡ after_opening old (texts (take i names)) → new ≡ after_opening mid ((get_or names i d).now ∷ [])
    → new ≡ after_opening old (texts (take (i + 1) names))
opened_at old mid new names i d below before after =
    rw (one_more_name names i d below) (opened_then old mid new (texts (take i names)) ((get_or names i d).now ∷ []) before after)
