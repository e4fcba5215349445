-- The rows of a problem are linear over a box as wide as it, and so is the objective.
use Rattle.std.proofs.Common.{◌≡◌, ℕ, ℤ, ◌*◌, ◌^◌, ◌<◌, ◌≤◌, length, Option, Some, None, IfSome, unsigned_abs, sym, subst, arith}
use Rattle.ug_rows.specs.Rows.{IsLinear}
use Rattle.ug_problem.specs.Instances.{Instance, row_at}
use Rattle.ug_problem.specs.Limits.{IsProblem}
use Rattle.ug_surrogate.specs.Rounding.{HasSmallSides}
use Rattle.ug_problem.proofs.Linear.{linear_objective, linear_row}

pub row_linear : (p : Instance) (r n : ℕ) → IsProblem p → n ≡ length p.columns → r < length p.rows → IsLinear n (row_at p r).terms
row_linear p r n problem wide there = subst (λ k. IsLinear k (row_at p r).terms) (sym wide) (linear_row p r problem there)

pub objective_linear : (p : Instance) (n : ℕ) → IsProblem p → n ≡ length p.columns → IsLinear n p.objective.terms
objective_linear p n problem wide = subst (λ k. IsLinear k p.objective.terms) (sym wide) (linear_objective p problem)

narrow_side : (side : Option ℤ) → IfSome side (λ s. unsigned_abs s ≤ 10 ^ 37) → IfSome side (λ s. unsigned_abs s ≤ 3 * 10 ^ 37)
narrow_side None h = tt
narrow_side (Some s) h = omega (arith, h)

-- the sides of a row of a problem are small
pub small_sides : (p : Instance) (r : ℕ) → IsProblem p → r < length p.rows → HasSmallSides (row_at p r)
small_sides p r problem there = record {
  low = narrow_side (row_at p r).low (problem.rows r there).low;
  high = narrow_side (row_at p r).high (problem.rows r there).high;
}
