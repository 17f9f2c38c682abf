-- The picture of a run, as text: an SVG document. Every text in it is made of digits, letters, spaces and the signs
-- `.`, `#` and `=`, so that none has to be escaped.
use Rattle.std.specs.Prelude.{◌≡◌, ℕ, ◌*◌, List, [], ◌∷◌, ◌++◌, codes, decimal, length, Option}
use Rattle.std.specs.List.{concat, flat_map, range_with_len}
use Rattle.cdb_base.specs.declared.event.Event.{Event}
use Rattle.cdb_rules.specs.RunView.{RunView}
use Rattle.cdb_rules.specs.Rules.{Rules}
use Rattle.cdb_setup.specs.Parts.{Parts}
use Rattle.cdb_setup.specs.declared.setup.Algorithm.{Algorithm}
use Rattle.cdb_setup.specs.declared.setup.Algorithm.TheVariants.{Leader, Alpha}
use Rattle.cdb_draw.specs.declared.style.TheConstants.{NAMESPACE, SHAPES, STYLE}
use Rattle.cdb_draw.specs.Arrows.{arrow_at}
use Rattle.cdb_draw.specs.EventMarks.{mark_at}
use Rattle.cdb_draw.specs.Lanes.{lanes_text}
use Rattle.cdb_draw.specs.Layout.{grid_of, height, width, Grid}
use Rattle.cdb_draw.specs.Weights.{AreWeighed, Weight}

-- the algorithm, and the leader's quorum
abbrev pub heading_text : Algorithm → ℕ → List ℕ
heading_text Leader quorum = codes "leader, quorum " ++ decimal quorum
heading_text Alpha quorum = codes "alpha"

-- the fixed parts, as src/style.rt has them; the width in millimetres; the width and the height in units, four to a
-- millimetre; and the heading
unfoldable pub document_text : ℕ → ℕ → List ℕ → List ℕ
document_text w h heading =
    concat
    (NAMESPACE.now ∷ codes "width='" ∷ decimal w ∷ codes "mm' viewBox='0 0 " ∷ decimal (4 * w) ∷ codes " " ∷ decimal h
    ∷ codes "'>\n" ∷ STYLE.now ∷ SHAPES.now ∷ codes "<text class='heading' x='8' y='16'>" ∷ heading
    ∷ codes "</text>\n" ∷ [])

abbrev pub head_text : Grid → RunView → List ℕ
head_text grid run =
    document_text (width grid) (height grid) (heading_text run.setup.algorithm run.setup.quorum)

-- the positions of a history
abbrev pub positions : List Event → List ℕ
positions history = range_with_len 1 (length history)

-- the arrows of all events, and their marks, each in the order of the history
abbrev pub arrows_text : Grid → RunView → List Weight → List ℕ
arrows_text grid run weights = flat_map (arrow_at grid run.history weights) (positions run.history)

abbrev pub marks_text : (Parts → Rules) → Grid → RunView → List Weight → List ℕ
marks_text rules grid run weights = flat_map (mark_at rules grid run weights) (positions run.history)

-- Lanes first, then the arrows, and then the marks, so that no arrow hides one.
abbrev pub picture_text : (Parts → Rules) → Grid → RunView → List Weight → List ℕ
picture_text rules grid run weights =
    head_text grid run ++ lanes_text grid run ++ arrows_text grid run weights ++ marks_text rules grid run weights
    ++ codes "</svg>\n"

-- the text is the picture of the run, with that number of columns to a row; with a position, of what led to the event
-- there
abbrev pub IsPicture : (Parts → Rules) → RunView → ℕ → Option ℕ → List ℕ → Type 0
IsPicture rules run columns position text =
    (weights : List Weight) × AreWeighed run position weights
    × (text ≡ picture_text rules (grid_of run.setup columns (length run.history)) run weights)
