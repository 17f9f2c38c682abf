-- Bytes that are added one piece after the other.
use Rattle.std.proofs.Common.{false, not, ◌&&◌, ◌==◌, ◌≡◌, ◌≢◌, ℕ, ◌+◌, ◌-◌, ◌<◌, List, ◌∷◌, ◌++◌, length, get_or, take}
use Rattle.std.proofs.Common.{drop, add-one, Option, refl, sym, ap, ◌∙◌, append_assoc, take-append-drop, arith}
use Rattle.std.specs.Prelude.{Ok}
use Rattle.std.specs.List.{flat_map}
use Rattle.std.specs.Io.KnownBytes.{Appends, Keeps}
use Rattle.std.proofs.KnownBytes.{Appends-trans, Appends-kept}
use Rattle.std.proofs.lemmas.Bool.{ne_eqb}
use Rattle.std.proofs.lemmas.List.{take_rest}
use Rattle.std.proofs.lemmas.Grind.{common_steps, flat_map-append}
use Rattle.std.proofs.lemmas.Option.{gets}
use Rattle.std.proofs.Math.Seq.{take-add, drop-cons}
use Rattle.cdb_streams.specs.Streams.{AddsBeginning, is_failure}

-- what was written so far is a beginning
pub so_far : (old now new : Option (List ℕ)) (bytes : List ℕ) (done : ℕ) → Appends old now (take done bytes) → Keeps now new → AddsBeginning old new bytes
so_far old now new bytes done e kept = (take done bytes, drop done bytes, sym (take-append-drop done bytes), Appends-kept old now new (take done bytes) e kept)

-- a piece more is written
pub one_piece : (old now new : Option (List ℕ)) (bytes : List ℕ) (done count : ℕ) → Appends old now (take done bytes)
    → Appends now new (take count (take (length bytes - done) (drop done bytes))) → Appends old new (take (done + count) bytes)
one_piece old now new bytes done count e f =
    rw (take-add done count bytes) (Appends-trans old now new (take done bytes) (take count (drop done bytes)) e (rw take_rest at f))

-- a write that took something did not fail
pub no_failure : (count : ℕ) (piece : List ℕ) → count ≢ 0 → is_failure {E = ℕ} (Ok count) piece ≡ false
no_failure count piece some = ap (λ b. b && not (length piece == 0)) (ne_eqb count 0 some)

-- a beginning of one text more is a beginning of all
pub beginning_of_all : (old now new : Option (List ℕ)) (before text after all : List ℕ) → Appends old now before
    → all ≡ before ++ (text ++ after) → AddsBeginning now new text → AddsBeginning old new all
beginning_of_all old now new before text after all e is added =
    (before ++ added.0, added.1 ++ after, is ∙ rw added.2 (simp append_assoc), Appends-trans old now new before added.0 e added.3)

-- the items before one, that one, and those after it
pub parted : {X : Type 0} (xs : List X) (i : ℕ) (d : X) → i < length xs → xs ≡ take i xs ++ (get_or xs i d ∷ drop (i + 1) xs)
parted {X} xs i d below = sym (take-append-drop i xs) ∙ ap (λ (ys : List X). take i xs ++ ys) (drop-cons xs i d below ∙ (rw add-one refl))

-- the same of their texts
pub parted_texts : {X : Type 0} (text : X → List ℕ) (xs : List X) (i : ℕ) (d : X) → i < length xs
    → flat_map text xs ≡ flat_map text (take i xs) ++ (text (get_or xs i d) ++ flat_map text (drop (i + 1) xs))
parted_texts text xs i d below = ap (flat_map text) (parted xs i d below) ∙ flat_map-append text (take i xs) (get_or xs i d ∷ drop (i + 1) xs)

-- the texts of the items up to one, and its own
pub one_more_text : {X : Type 0} (text : X → List ℕ) (xs : List X) (i : ℕ) (d : X) → i < length xs
    → flat_map text (take (i + 1) xs) ≡ flat_map text (take i xs) ++ text (get_or xs i d)
one_more_text text xs i d below = grind (arith, common_steps, gets)
