-- The ways of the arrows of messages, and why they are so.
--
-- An arrow leaves its send and comes to its receive steeply, half a column along. For the rest it lies between the lane
-- of its sender and the next one on its side, and crosses further lanes half a column before its receive: each column
-- has one event, so no mark stands there, and no other arrow crosses there. Between two lanes arrows begin at one
-- height and end at another, so two that begin or end at different columns never lie on each other. Where the receive
-- stands in another row, the arrow ends at the edge of the first row, and begins again at that of the other.
use Rattle.std.specs.Prelude.{ℕ, ◌+◌, ◌-◌, List, [], ◌∷◌, ◌++◌, codes, decimal, nat_eq, nat_lt, if◌then◌else◌}
use Rattle.std.specs.List.{concat, flat_map}
use Rattle.cdb_draw.specs.Layout.{end_x, lane_y, row_of, spot, start_x, Grid, Point}
pub use Rattle.cdb_draw.specs.declared.way.Side.{Side}
pub use Rattle.cdb_draw.specs.declared.way.Side.TheVariants.{Below, Above, Own}

-- on which side of the sender the receiver is
abbrev pub side_of : ℕ → ℕ → Side
side_of s p = if nat_eq s p then Own else (if nat_lt s p then Below else Above)

-- the first bend, seen from the lane of the sender; a copy for the sender itself goes below the lane
abbrev pub leaving : Side → ℕ → ℕ
leaving Below y = y + 22
leaving Above y = y - 22
leaving Own y = y + 22

-- the second one, before the next lane on that side
abbrev pub passing : Side → ℕ → ℕ
passing Below y = y + 66
passing Above y = y - 66
passing Own y = y + 44

-- the last one, seen from the lane of the receiver
abbrev pub coming : Side → ℕ → ℕ
coming Below y = y - 22
coming Above y = y + 22
coming Own y = y + 44

-- the beginning of a way, from its send
abbrev pub beginning : Side → Point → List Point
beginning side from = from ∷ record { x = from.x + 26; y = leaving side from.y } ∷ []

-- its end, where the lane of the sender has that y in the row of the receive
abbrev pub ending : Side → ℕ → Point → List Point
ending side y to =
    record { x = to.x - 26; y = passing side y } ∷ record { x = to.x - 26; y = coming side to.y } ∷ to ∷ []

-- in one row
abbrev pub whole_way : Side → Point → Point → List (List Point)
whole_way side from to = (beginning side from ++ ending side from.y to) ∷ []

-- to another row, in which the lane of the sender has that y; the first row ends there
abbrev pub broken_way : Side → ℕ → Point → ℕ → Point → List (List Point)
broken_way side edge from y to =
    (beginning side from ++ record { x = edge; y = passing side from.y } ∷ [])
    ∷ (record { x = start_x; y = leaving side y } ∷ ending side y to) ∷ []

-- the way of a copy from position i on the lane of process s to position j on that of process p
abbrev pub way_of : Grid → ℕ → ℕ → ℕ → ℕ → List (List Point)
way_of grid i s j p =
    let side = side_of s p in
    if nat_eq (row_of grid i) (row_of grid j)
    then whole_way side (spot grid i s) (spot grid j p)
    else broken_way side (end_x grid) (spot grid i s) (lane_y grid (row_of grid j) s) (spot grid j p)

-- ---- as text

abbrev pub point_text : Point → List ℕ
point_text point = decimal point.x ++ codes "," ++ decimal point.y

abbrev pub line_parts : Point → List (List ℕ)
line_parts point = codes "L" ∷ point_text point ∷ []

-- from its first point through the others
abbrev pub stroke_parts : List Point → List (List ℕ)
stroke_parts [] = []
stroke_parts (point ∷ points) = codes "M" ∷ point_text point ∷ flat_map line_parts points

abbrev pub way_text : List (List Point) → List ℕ
way_text strokes = concat (flat_map stroke_parts strokes)
