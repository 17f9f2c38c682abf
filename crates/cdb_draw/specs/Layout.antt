-- Where things stand in a picture, in quarters of a millimetre: x from the left, y from the top. Events stand in
-- columns, each 13 mm after the one before it, a fixed number of them to a row; each row has all lanes.
use Rattle.std.specs.Prelude.{ℕ, ◌+◌, ◌-◌, ◌*◌, ◌/◌, ◌%◌, ◌≤◌, ◌||◌, max, nat_eq, nat_le, if◌then◌else◌}
use Rattle.cdb_base.specs.Limits.{MAX_ENTRIES}
use Rattle.cdb_setup.specs.Parts.{Parts}
use Rattle.cdb_setup.specs.declared.setup.Algorithm.{Algorithm}
use Rattle.cdb_setup.specs.declared.setup.Algorithm.TheVariants.{Leader, Alpha}
pub use Rattle.cdb_draw.specs.declared.layout.Grid.{Grid}
pub use Rattle.cdb_draw.specs.declared.layout.Point.{Point}

-- how far the lanes of two processes are apart: arrows between them take more room than those to registers
abbrev pub lane_gap : Algorithm → ℕ
lane_gap Leader = 88
lane_gap Alpha = 60

-- a row with all lanes, for that number of processes: at most 205 mm, on a page of 210
abbrev pub row_height : Algorithm → ℕ → ℕ
row_height Leader n = 88 * n + 20
row_height Alpha n = 84 * n + 64

-- as many columns to a row as were asked for, or all in one row: where they are fewer, or where 0 were asked for
abbrev pub columns_for : ℕ → ℕ → ℕ
columns_for asked count = if nat_eq asked 0 || nat_le count asked then max count 1 else asked

-- the columns of a row, how many rows there are, and what a row has, for that number of events
abbrev pub grid_of : Parts → ℕ → ℕ → Grid
grid_of setup asked count =
    record {
      columns = columns_for asked count;
      rows = 1 + (count - 1) / columns_for asked count;
      processes = setup.processes;
      gap = lane_gap setup.algorithm;
      height = row_height setup.algorithm setup.processes;
    }

-- what a grid is of
pub record IsGrid (grid : Grid) : Type 0 where
  pub some : 1 ≤ grid.columns
  pub few : grid.columns ≤ MAX_ENTRIES
  pub rows : grid.rows ≤ MAX_ENTRIES + 1
  pub processes : grid.processes ≤ 9
  pub a_process : 1 ≤ grid.processes
  pub gap : grid.gap ≤ 88
  pub height : grid.height ≤ 820

-- an event by its position in the history: its row, from 0, and its column
abbrev pub row_of : Grid → ℕ → ℕ
row_of grid position = (position - 1) / grid.columns

abbrev pub x_of : Grid → ℕ → ℕ
x_of grid position = 110 + 52 * ((position - 1) % grid.columns)

-- the lane of process p in a row
abbrev pub lane_y : Grid → ℕ → ℕ → ℕ
lane_y grid row p = 80 + row * grid.height + grid.gap * (p - 1)

-- below those of the processes, the k-th lane of a register: first the processes' own, then that of the decision
abbrev pub register_y : Grid → ℕ → ℕ → ℕ
register_y grid row k = lane_y grid row grid.processes + 16 + 24 * k

-- an event of process p at that position
abbrev pub spot : Grid → ℕ → ℕ → Point
spot grid position p = record { x = x_of grid position; y = lane_y grid (row_of grid position) p }

-- no point is further off, and no lane
pub record IsOnPage (point : Point) : Type 0 where
  pub left : 110 ≤ point.x
  pub right : point.x ≤ 52000110
  pub top : 80 ≤ point.y
  pub bottom : point.y ≤ 820001000

-- where lanes begin, and where one ends that no crash ends
abbrev pub start_x : ℕ
start_x = 72

abbrev pub end_x : Grid → ℕ
end_x grid = 110 + 52 * grid.columns

-- ---- the picture as a whole

-- in millimetres, 297 with 20 columns
abbrev pub width : Grid → ℕ
width grid = 37 + 13 * grid.columns

abbrev pub height : Grid → ℕ
height grid = 20 + grid.rows * grid.height
