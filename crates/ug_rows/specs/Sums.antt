-- Sums over a box: the least and the greatest that the terms reach over its points.
use Rattle.std.specs.Prelude.{ℤ, pos, negsuc, ◌+ℤ◌, ◌*ℤ◌, ◌≤ℤ◌, List, [], ◌∷◌}
use Rattle.ug_rows.specs.declared.area.Interval.{Interval}
use Rattle.ug_rows.specs.declared.row.Term.{Term}
use Rattle.ug_rows.specs.declared.row.Objective.{Objective}
use Rattle.ug_rows.specs.declared.sums.Extreme.{Extreme}
use Rattle.ug_rows.specs.declared.sums.Extreme.TheVariants.{Least, Greatest}
use Rattle.ug_rows.specs.Boxes.{interval_at}

-- the end of the interval at which its product with the coefficient is the least, or the greatest
abbrev pub end_of : Extreme → ℤ → Interval → ℤ
end_of Least (pos _) side = side.low
end_of Least (negsuc _) side = side.high
end_of Greatest (pos _) side = side.high
end_of Greatest (negsuc _) side = side.low

-- the product of a term at that end of its column's interval
abbrev pub end_product : Extreme → Term → List Interval → ℤ
end_product extreme t area = t.factor *ℤ end_of extreme t.factor (interval_at area t.column)

-- the sum of the terms, each at that end of its column's interval
abbrev pub end_sum : Extreme → List Term → List Interval → ℤ
end_sum extreme [] area = pos 0
end_sum extreme (t ∷ terms) area = end_product extreme t area +ℤ end_sum extreme terms area

-- the least sum of the terms over the box
abbrev pub least_sum : List Term → List Interval → ℤ
least_sum terms area = end_sum Least terms area

-- the greatest sum of the terms over the box
abbrev pub greatest_sum : List Term → List Interval → ℤ
greatest_sum terms area = end_sum Greatest terms area

-- the floor of the box: the least value of the objective over it, rows not examined
abbrev pub box_floor : Objective → List Interval → ℤ
box_floor objective area = least_sum objective.terms area +ℤ objective.constant

-- the sum is at most the value, for the least, or at least the value, for the greatest
abbrev pub IsBound : Extreme → ℤ → ℤ → Type 0
IsBound Least sum value = sum ≤ℤ value
IsBound Greatest sum value = value ≤ℤ sum
