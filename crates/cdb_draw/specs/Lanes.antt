-- The lanes of a picture, in each row: a line for each process, and in Alpha one for each register.
use Rattle.std.specs.Prelude.{ℕ, ◌+◌, ◌-◌, ◌*◌, ◌/◌, ◌%◌, List, [], ◌∷◌, ◌++◌, codes, decimal}
use Rattle.std.specs.Prelude.{nat_eq, nat_le, nat_lt, unwrap_or, if◌then◌else◌}
use Rattle.std.specs.List.{concat, flat_map, range_with_len}
use Rattle.std.specs.Option.{option_map_or}
use Rattle.cdb_base.specs.Positions.{nth}
use Rattle.cdb_base.specs.declared.event.Event.{Event}
use Rattle.cdb_rules.specs.RunView.{RunView}
use Rattle.cdb_setup.specs.declared.setup.Algorithm.{Algorithm}
use Rattle.cdb_setup.specs.declared.setup.Algorithm.TheVariants.{Leader, Alpha}
use Rattle.cdb_draw.specs.Layout.{end_x, lane_y, register_y, row_of, start_x, x_of, Grid}
use Rattle.cdb_draw.specs.Positions.{crashed_at}

-- a lane of that class, so far down: its name, what stands below the name, and its line
unfoldable pub lane_text : List ℕ → ℕ → List ℕ → List ℕ → ℕ → List ℕ
lane_text class y name detail end =
    concat
    (codes "<g class='" ∷ class ∷ codes "' transform='translate(0," ∷ decimal y ∷ codes ")'><text x='8'>" ∷ name
    ∷ codes "</text><text class='input' x='8' y='12'>" ∷ detail ∷ codes "</text><path d='M72,0H" ∷ decimal end
    ∷ codes "'/></g>\n" ∷ [])

-- where the lane of a process ends in a row: at its crash, which leaves the later rows none, or else at the edge
abbrev pub end_after : Grid → ℕ → ℕ → ℕ
end_after grid row crash =
    if nat_lt row (row_of grid crash) then end_x grid
    else (if nat_eq row (row_of grid crash) then x_of grid crash else start_x)

abbrev pub lane_end : Grid → List Event → ℕ → ℕ → ℕ
lane_end grid history row p = option_map_or (end_after grid row) (crashed_at history p) (end_x grid)

-- a process and its input
abbrev pub process_lane : Grid → RunView → ℕ → ℕ → List ℕ
process_lane grid run row p =
    lane_text (codes "lane") (lane_y grid row p) (codes "p" ++ decimal p)
    (codes "input " ++ decimal (unwrap_or (nth run.setup.inputs p) 0)) (lane_end grid run.history row p)

-- the k-th register: those of the processes, and then that of the decision
abbrev pub register_name : Grid → ℕ → List ℕ
register_name grid k = if nat_le k grid.processes then codes "r" ++ decimal k else codes "dec"

abbrev pub register_lane_text : Grid → ℕ → ℕ → List ℕ
register_lane_text grid row k =
    lane_text (codes "register") (register_y grid row k) (register_name grid k) [] (end_x grid)

-- the k-th lane of a row: those of the processes, and then those of the registers
abbrev pub lane_of_row : Grid → RunView → ℕ → ℕ → List ℕ
lane_of_row grid run row k =
    if nat_le k grid.processes then process_lane grid run row k
    else register_lane_text grid row (k - grid.processes)

-- how many there are
abbrev pub lanes_by : Algorithm → ℕ → ℕ
lanes_by Leader n = n
lanes_by Alpha n = 2 * n + 1

-- one lane of the whole, counted from 0 row by row, where each row has that many
abbrev pub lane_at : Grid → RunView → ℕ → ℕ → List ℕ
lane_at grid run lanes i = lane_of_row grid run (i / lanes) (i % lanes + 1)

abbrev pub lanes_text : Grid → RunView → List ℕ
lanes_text grid run =
    let lanes = lanes_by run.setup.algorithm grid.processes in
    flat_map (lane_at grid run lanes) (range_with_len 0 (grid.rows * lanes))
