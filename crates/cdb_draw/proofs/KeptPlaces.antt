-- No arrow touches a mark that is not one of its ends.
use Rattle.std.proofs.Common.{◌≡◌, ◌≢◌, ◌⊎◌, inl, inr, ℕ, ◌+◌, ◌-◌, ◌*◌, ◌/◌, ◌%◌, ◌<◌, ◌≤◌, Bool, true, false, if◌then◌else◌, nat_eq, List, refl, ap, arith}
use Rattle.std.proofs.Math.Nat.{mul-le-mul_right, div-add-mod}
use Rattle.std.proofs.lemmas.Bool.Decides.{nat_tests}
use Rattle.std.proofs.lemmas.Grind.{common_steps}
use Rattle.cdb_draw.specs.Apart.{ArrowsKeepOff, IsOff, IsOneOf, IsWayOff}
use Rattle.cdb_draw.specs.Layout.{columns_for, lane_y, row_of, spot, x_of, Grid, Point}
use Rattle.cdb_draw.specs.Ways.{coming, leaving, passing, side_of, way_of, Side, Below, Above, Own}

-- one row is above another
over : (high r t : ℕ) → r < t → r * high + high ≤ t * high
over high r t less =
    let times : (r + 1) * high ≤ t * high = mul-le-mul_right {m = r + 1} {n = t} high (omega arith) in
    omega (arith, times)

abbrev IsOrdered : ℕ → ℕ → Type 0
IsOrdered a b = (a < b) ⊎ ((b < a) ⊎ (a ≡ b))

ordered : (a b : ℕ) → IsOrdered a b
ordered a b = grind arith

-- where the mark of position k stands, seen from position i: in a row above it, in a row below it, to its left, or to its right
abbrev Place : ℕ → ℕ → ℕ → Type 0
Place c k i =
    ((k - 1) / c < (i - 1) / c) ⊎ (((i - 1) / c < (k - 1) / c) ⊎ (((k - 1) % c < (i - 1) % c) ⊎ ((i - 1) % c < (k - 1) % c)))

place : (c k i : ℕ) → 1 ≤ k → 1 ≤ i → k ≢ i → Place c k i
place c k i a b other = grind (arith, div-add-mod (k - 1) c, div-add-mod (i - 1) c)

-- the two ends of a line may change places
swapped : {mark from to : Point} → IsOff 8 mark from to → IsOff 8 mark to from
swapped off = grind arith

-- half a column before a receive no mark stands
upright : (a b mark_y y1 y2 : ℕ)
    → IsOff 8 (record { x = 110 + 52 * a; y = mark_y }) (record { x = 110 + 52 * b - 26; y = y1 }) (record { x = 110 + 52 * b - 26; y = y2 })
upright a b mark_y y1 y2 = grind arith

-- Of a run of n processes: a mark on lane q, from 0, of row r, and column a; and what lies in row t.
module _ (n high : ℕ) (tall : high ≡ 88 * n + 20) (r q a : ℕ) (among : q + 1 ≤ n) (t : ℕ) where
  abbrev mark : Point
  mark = record { x = 110 + 52 * a; y = 80 + r * high + 88 * q }

  -- a line between lane b and the next one
  between : (b x1 y1 x2 y2 : ℕ) → b + 1 ≤ n → IsOrdered r t
      → 80 + t * high + 88 * b + 22 ≤ y1 → y1 ≤ 80 + t * high + 88 * b + 66 → 80 + t * high + 88 * b + 22 ≤ y2 → y2 ≤ 80 + t * high + 88 * b + 66
      → IsOff 8 mark (record { x = x1; y = y1 }) (record { x = x2; y = y2 })
  between b x1 y1 x2 y2 few (inl above) low1 up1 low2 up2 = grind (arith, over high r t above)
  between b x1 y1 x2 y2 few (inr (inl below)) low1 up1 low2 up2 = grind (arith, over high t r below)
  between b x1 y1 x2 y2 few (inr (inr same)) low1 up1 low2 up2 = grind (arith, ap (λ k. k * high) same)

  -- a line of half a column at an event of column b, on lane s
  steep : (b s x y : ℕ) → s + 1 ≤ n → (r < t) ⊎ ((t < r) ⊎ ((a < b) ⊎ (b < a)))
      → 110 + 52 * b ≤ x + 26 → x ≤ 110 + 52 * b + 26 → 80 + t * high + 88 * s ≤ y + 22 → y ≤ 80 + t * high + 88 * s + 44
      → IsOff 8 mark (record { x = 110 + 52 * b; y = 80 + t * high + 88 * s }) (record { x = x; y = y })
  steep b s x y few (inl above) left right low up = grind (arith, over high r t above)
  steep b s x y few (inr (inl below)) left right low up = grind (arith, over high t r below)
  steep b s x y few (inr (inr beside)) left right low up = grind arith

-- the side is that of the receiver
abbrev pub Suits : Side → ℕ → ℕ → Type 0
Suits Below s p = s < p
Suits Above s p = p < s
Suits Own s p = s ≡ p

suits : (s p : ℕ) → Suits (side_of s p) s p
suits s p = grind (arith, common_steps, nat_tests)

-- the first and the last bend are steep
near : (side : Side) (y : ℕ) → 22 ≤ y → (y ≤ leaving side y + 22) × (leaving side y ≤ y + 44) × (y ≤ coming side y + 22) × (coming side y ≤ y + 44)
near Below y low = (omega arith, omega arith, omega arith, omega arith)
near Above y low = (omega arith, omega arith, omega arith, omega arith)
near Own y low = (omega arith, omega arith, omega arith, omega arith)

-- The ways, where the mark is at position k on lane q.
module _ (n high c r : ℕ) (tall : high ≡ 88 * n + 20) (k q : ℕ) (late : 1 ≤ k) (among : IsOneOf n q) where
  abbrev grid : Grid
  grid = record { columns = c; rows = r; processes = n; gap = 88; height = high }

  abbrev here : Point
  here = spot grid k q

  -- where the lane of process s is in the row of position i
  abbrev lane : ℕ → ℕ → ℕ
  lane i s = lane_y grid (row_of grid i) s

  steep_at : (i s x y : ℕ) → 1 ≤ i → k ≢ i → IsOneOf n s → x_of grid i ≤ x + 26 → x ≤ x_of grid i + 26 → lane i s ≤ y + 22 → y ≤ lane i s + 44
      → IsOff 8 here (spot grid i s) (record { x = x; y = y })
  steep_at i s x y early other one left right low up =
      steep n high tall (row_of grid k) (q - 1) ((k - 1) % c) (omega arith) (row_of grid i)
      ((i - 1) % c) (s - 1) x y (omega arith) (place c k i late early other)
      left right low up

  between_at : (i b x1 y1 x2 y2 : ℕ) → b + 1 ≤ n → lane i (b + 1) + 22 ≤ y1 → y1 ≤ lane i (b + 1) + 66 → lane i (b + 1) + 22 ≤ y2 → y2 ≤ lane i (b + 1) + 66
      → IsOff 8 here (record { x = x1; y = y1 }) (record { x = x2; y = y2 })
  between_at i b x1 y1 x2 y2 few low1 up1 low2 up2 =
      between n high tall (row_of grid k) (q - 1) ((k - 1) % c) (omega arith) (row_of grid i) b x1 y1 x2 y2 few (ordered (row_of grid k) (row_of grid i))
      (omega arith) (omega arith) (omega arith) (omega arith)

  passes : (side : Side) (i s p x1 x2 : ℕ) → Suits side s p → IsOneOf n s → IsOneOf n p
      → IsOff 8 here (record { x = x1; y = leaving side (lane i s) }) (record { x = x2; y = passing side (lane i s) })
  passes Below i s p x1 x2 suit one two = between_at i (s - 1) _ _ _ _ (omega arith) (omega arith) (omega arith) (omega arith) (omega arith)
  passes Above i s p x1 x2 suit one two = between_at i (s - 2) _ _ _ _ (omega arith) (omega arith) (omega arith) (omega arith) (omega arith)
  passes Own i s p x1 x2 suit one two = between_at i (s - 1) _ _ _ _ (omega arith) (omega arith) (omega arith) (omega arith) (omega arith)

  one_of_two : (b : Bool) (first second : List (List Point)) → IsWayOff 8 here first → IsWayOff 8 here second → IsWayOff 8 here (if b then first else second)
  one_of_two true first second a b = a
  one_of_two false first second a b = b

  pub keeps_off : (i s j p : ℕ) → 1 ≤ i → 1 ≤ j → k ≢ i → k ≢ j → IsOneOf n s → IsOneOf n p → IsWayOff 8 here (way_of grid i s j p)
  keeps_off i s j p early later one other from to =
      let side = side_of s p in
      let suit : Suits side s p = suits s p in
      let leave = near side (lane i s) (omega arith) in
      let begin = steep_at i s (x_of grid i + 26) (leaving side (lane i s)) early one from (omega arith) (omega arith) leave.0 leave.1 in
      let up = upright ((k - 1) % c) ((j - 1) % c) here.y in
      let come = near side (lane j p) (omega arith) in
      let end = swapped (steep_at j p (x_of grid j - 26) (coming side (lane j p)) later other to (omega arith) (omega arith) come.2 come.3) in
      one_of_two (nat_eq (row_of grid i) (row_of grid j)) _ _ ((begin, (passes side i s p _ _ suit from to, (up _ _, (end, tt)))), tt)
      ((begin, (passes side i s p _ _ suit from to, tt)), ((passes side j s p _ _ suit from to, (up _ _, (end, tt))), tt))

pub arrows_keep_off : ArrowsKeepOff
arrows_keep_off setup columns count i s j p k q leads early later late one other from to among =
    rw leads (keeps_off setup.processes (88 * setup.processes + 20) (columns_for columns count)
    (1 + (count - 1) / columns_for columns count) refl k q late among i s j p early later one other from to)
