-- How many points boxes have: the measure of what is left to search.
use Rattle.std.specs.Prelude.{ℕ, ℤ, pos, negsuc, ◌+◌, ◌-◌, ◌*◌, ◌+ℤ◌, ◌-ℤ◌, List, [], ◌∷◌}
use Rattle.ug_rows.specs.declared.area.Interval.{Interval}

-- a number, or 0 where it is negative
abbrev pub nat_part : ℤ → ℕ
nat_part (pos n) = n
nat_part (negsuc n) = 0

-- how many values an interval has
abbrev pub count_of : Interval → ℕ
count_of side = nat_part (side.high -ℤ side.low +ℤ pos 1)

-- how many points a box has
abbrev pub points_of : List Interval → ℕ
points_of [] = 1
points_of (side ∷ sides) = count_of side * points_of sides

-- twice the points of a box less 1, and at least 1
abbrev pub weight_of : List Interval → ℕ
weight_of area = 1 + (2 * points_of area - 2)

-- the measure of the search: it falls with each box that is pruned or branched
abbrev pub measure_of : List (List Interval) → ℕ
measure_of [] = 0
measure_of (area ∷ boxes) = weight_of area + measure_of boxes
