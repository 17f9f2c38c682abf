use Rattle.std.proofs.Common.{◌≡◌, ℕ, List, [], ◌∷◌, codes, refl, ap}
use Rattle.std.specs.List.{concat}
use Rattle.cdb_draw.specs.EventMarks.{marked_text}
use Rattle.cdb_draw.specs.Ways.{point_text}
use Rattle.cdb_draw.proofs.mark.mark.Goals as goal

texts : {weight weight' at at' ring ring' tick tick' shape shape' first first' second second' third third' place place' below below' note note' : List ℕ}
    → weight ≡ weight' → at ≡ at' → ring ≡ ring' → tick ≡ tick' → shape ≡ shape' → first ≡ first'
    → second ≡ second' → third ≡ third' → place ≡ place' → below ≡ below' → note ≡ note'
    → (form : List ℕ → List ℕ → List ℕ → List ℕ → List ℕ → List ℕ → List ℕ → List ℕ → List ℕ → List ℕ → List ℕ → List ℕ)
    → form weight at ring tick shape first second third place below note ≡ form weight' at' ring' tick' shape' first' second' third' place' below' note'
texts a b c d e f g h i j k form = rw (a, b, c, d, e, f, g, h, i, j, k) refl

pub returns : goal.returns
unfolding marked_text
returns g c =
    let decided = c.decision_by-decided.ensures in
    let begun = c.begun.ensures in
    texts c.class.ensures (ap point_text (rw c.lane_of.ensures at c.spot-at.ensures.value))
    (rw decided at c.ring.ensures.ring) (rw begun at c.tick.ensures.tick) c.rows.ensures.shape
    c.rows.ensures.first c.rows.ensures.second c.rows.ensures.third (rw decided at c.ring.ensures.place)
    (rw decided at c.below-below.ensures) (rw begun at c.tick.ensures.note)
    (λ weight at ring tick shape first second third place below note.
    concat (codes "<g class='" ∷ weight ∷ codes "' transform='translate(" ∷ at ∷ codes ")'><title>" ∷ c.args.whole.now
    ∷ codes "</title>" ∷ ring ∷ tick ∷ codes "<use href='#" ∷ shape ∷ codes "'/><text y='-37'>" ∷ first ∷ codes "</text><text y='-26'>" ∷ second
    ∷ codes "</text><text y='-15'>" ∷ third ∷ codes "</text><text " ∷ place ∷ codes ">"
    ∷ below ∷ codes "</text><text class='note' y='33'>" ∷ note ∷ codes "</text></g>\n" ∷ []))
