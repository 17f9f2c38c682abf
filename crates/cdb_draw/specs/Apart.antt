-- What the ways of arrows are for: no arrow touches a mark that is not one of its ends.
use Rattle.std.specs.Prelude.{◌≡◌, ◌≢◌, ◌⊎◌, ℕ, ◌+◌, ◌≤◌, List, [], ◌∷◌}
use Rattle.cdb_setup.specs.Parts.{Parts}
use Rattle.cdb_setup.specs.declared.setup.Algorithm.TheVariants.{Leader}
use Rattle.cdb_draw.specs.Layout.{grid_of, spot, Point}
use Rattle.cdb_draw.specs.Ways.{way_of}

-- a point keeps so far from a line between two others, since both of these are so far to its right, to its left, below
-- it, or above it
abbrev pub IsOff : ℕ → Point → Point → Point → Type 0
IsOff far mark from to =
    ((mark.x + far ≤ from.x) × (mark.x + far ≤ to.x)) ⊎ (((from.x + far ≤ mark.x) × (to.x + far ≤ mark.x))
    ⊎ (((mark.y + far ≤ from.y) × (mark.y + far ≤ to.y)) ⊎ ((from.y + far ≤ mark.y) × (to.y + far ≤ mark.y))))

-- from each line of a stroke, and from each stroke of a way

abbrev pub IsStrokeOff : ℕ → Point → List Point → Type 0
IsStrokeOff far mark [] = Unit {0}
IsStrokeOff far mark (from ∷ []) = Unit {0}
IsStrokeOff far mark (from ∷ to ∷ points) = IsOff far mark from to × IsStrokeOff far mark (to ∷ points)

abbrev pub IsWayOff : ℕ → Point → List (List Point) → Type 0
IsWayOff far mark [] = Unit {0}
IsWayOff far mark (stroke ∷ strokes) = IsStrokeOff far mark stroke × IsWayOff far mark strokes

-- the number is from 1 to n
abbrev pub IsOneOf : ℕ → ℕ → Type 0
IsOneOf n p = (1 ≤ p) × (p ≤ n)

-- The arrow from position i on the lane of process s to position j on that of process p keeps 8 units from the middle
-- of the mark at each other position k, on the lane of whatever process q.
abbrev pub ArrowsKeepOff : Type 0
ArrowsKeepOff =
    (setup : Parts) (columns count i s j p k q : ℕ) → setup.algorithm ≡ Leader
    → 1 ≤ i → 1 ≤ j → 1 ≤ k → k ≢ i → k ≢ j
    → IsOneOf setup.processes s → IsOneOf setup.processes p → IsOneOf setup.processes q
    → IsWayOff 8 (spot (grid_of setup columns count) k q) (way_of (grid_of setup columns count) i s j p)
