-- Rows: linear sums with two optional sides, and when a point satisfies them.
use Rattle.std.specs.Prelude.{◌≡◌, ◌⊎◌, ℕ, ℤ, pos, ◌+ℤ◌, ◌*ℤ◌, ◌<◌, ◌≤◌, ◌^◌, ◌≤ℤ◌, List, [], ◌∷◌}
use Rattle.std.specs.Prelude.{length, slice_index_or, IfSome, unsigned_abs}
use Rattle.ug_rows.specs.declared.row.Term.{Term}
use Rattle.ug_rows.specs.declared.row.Row.{Row}
use Rattle.ug_rows.specs.declared.row.Objective.{Objective}
use Rattle.ug_rows.specs.Boxes.{value_at}

-- a term that stands for one that is not there
abbrev pub no_term : Term
no_term = record { column = 0; factor = pos 0 }

-- term k
abbrev pub term_at : List Term → ℕ → Term
term_at terms k = slice_index_or terms k no_term

-- the term is one of these
abbrev pub IsAmong : Term → List Term → Type 0
IsAmong t [] = ⊥
IsAmong t (u ∷ us) = (t ≡ u) ⊎ IsAmong t us

-- the sum of the terms at the point x
abbrev pub sum_at : List Term → List ℤ → ℤ
sum_at [] x = pos 0
sum_at (t ∷ terms) x = (t.factor *ℤ value_at x t.column) +ℤ sum_at terms x

-- the value of the objective at the point x
abbrev pub value_of : Objective → List ℤ → ℤ
value_of objective x = sum_at objective.terms x +ℤ objective.constant

-- the point x satisfies the row: its sum is within the sides that the row has
pub record Keeps (row : Row) (x : List ℤ) : Type 0 where
  pub low : IfSome row.low (λ low. low ≤ℤ sum_at row.terms x)
  pub high : IfSome row.high (λ high. sum_at row.terms x ≤ℤ high)

-- terms over `width` columns, of which there are at most 10,000: columns rise, and no coefficient
-- is above 10^24
pub record IsLinear (width : ℕ) (terms : List Term) : Type 0 where
  pub few : width ≤ 10 ^ 4
  pub rising : (i k : ℕ) → i < k → k < length terms
      → (term_at terms i).column < (term_at terms k).column
  pub within : (k : ℕ) → k < length terms → (term_at terms k).column < width
  pub small : (k : ℕ) → k < length terms → unsigned_abs (term_at terms k).factor ≤ 10 ^ 24
