-- Which points are feasible, and the first way in which one is not.
use Rattle.std.specs.Prelude.{◌≡◌, ◌≢◌, ℕ, ℤ, ◌<◌, List, length}
use Rattle.ug_rows.specs.Boxes.{IsInside, IsWithin, interval_at, value_at}
use Rattle.ug_rows.specs.Rows.{Keeps}
use Rattle.ug_problem.specs.Instances.{Instance, root_of, row_at}
use Rattle.ug_problem.specs.declared.answer.Broken.{Broken}
use Rattle.ug_problem.specs.declared.answer.Broken.TheVariants.{Length, Column, Row}

-- x satisfies the first n rows
abbrev pub KeepsBelow : Instance → ℕ → List ℤ → Type 0
KeepsBelow p n x = (r : ℕ) → r < n → Keeps (row_at p r) x

-- x has one value per column, each within its bounds, and satisfies each row
pub record Feasible (p : Instance) (x : List ℤ) : Type 0 where
  pub inside : IsInside (root_of p) x
  pub rows : KeepsBelow p (length p.rows) x

-- the length is wrong, and is this
pub record IsWrongLength (p : Instance) (x : List ℤ) (got : ℕ) : Type 0 where
  pub is_length : got ≡ length x
  pub wrong : length x ≢ length p.columns

-- c is the least column whose value is outside its bounds
pub record IsFirstColumn (p : Instance) (x : List ℤ) (c : ℕ) : Type 0 where
  pub width : length x ≡ length p.columns
  pub there : c < length p.columns
  pub outside : ¬ IsWithin (interval_at (root_of p) c) (value_at x c)
  pub least : (j : ℕ) → j < c → IsWithin (interval_at (root_of p) j) (value_at x j)

-- r is the least row that x does not satisfy, and x is within all bounds
pub record IsFirstRow (p : Instance) (x : List ℤ) (r : ℕ) : Type 0 where
  pub inside : IsInside (root_of p) x
  pub there : r < length p.rows
  pub broken : ¬ Keeps (row_at p r) x
  pub least : KeepsBelow p r x

-- the first way in which x is not feasible: its length, then the least column, then the least row
abbrev pub IsFirstBroken : Instance → List ℤ → Broken → Type 0
IsFirstBroken p x (Length got) = IsWrongLength p x got
IsFirstBroken p x (Column c) = IsFirstColumn p x c
IsFirstBroken p x (Row r) = IsFirstRow p x r
