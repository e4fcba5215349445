-- How large the value of a point within all bounds is.
use Rattle.std.proofs.Common.{◌≡◌, ℕ, ℤ, pos, negsuc, ◌*◌, ◌^◌, ◌<◌, ◌≤◌, ◌≤ℤ◌, ◌+ℤ◌, ◌*ℤ◌, List, [], ◌∷◌, length, slice_index_or, unsigned_abs, suc, sym, subst, arith}
use Rattle.std.proofs.Math.Nat.{mul-le-mul}
use Rattle.std.proofs.lemmas.Int.{ints, unsigned_abs-mul}
use Rattle.std.proofs.lemmas.List.{get_or-map, length-map}
use Rattle.std.proofs.lemmas.List.Elements.{All-get_or}
use Rattle.ug_rows.specs.declared.row.Term.{Term}
use Rattle.ug_rows.specs.Boxes.{IsInside, IsWithin, interval_at, no_interval, value_at}
use Rattle.ug_rows.specs.Rows.{sum_at, term_at, value_of}
use Rattle.ug_rows.proofs.Products.{abs_add}
use Rattle.ug_rows.proofs.SumLemmas.{few_terms}
use Rattle.ug_problem.specs.declared.column.Column.{Column}
use Rattle.ug_problem.specs.Instances.{Instance, IsColumn, bounds_of, root_of}
use Rattle.ug_problem.specs.Limits.{IsProblem}
use Rattle.ug_problem.proofs.Linear.{linear_objective}

-- a value between two numbers of at most 10^9 is at most that
pub between : (low high v : ℤ) → unsigned_abs low ≤ 10 ^ 9 → unsigned_abs high ≤ 10 ^ 9 → low ≤ℤ v → v ≤ℤ high → unsigned_abs v ≤ 10 ^ 9
between low (pos high) (pos v) a b c d = omega (arith, ints, b, d)
between low (negsuc high) (pos v) a b c d = absurd (omega (arith, ints, d))
between (pos low) high (negsuc v) a b c d = absurd (omega (arith, ints, c))
between (negsuc low) high (negsuc v) a b c d = omega (arith, ints, a, c)

-- a sum and one product more
pub sum_step : (f v s : ℤ) (n : ℕ) → unsigned_abs f ≤ 10 ^ 24 → unsigned_abs v ≤ 10 ^ 9 → unsigned_abs s ≤ n * (10 ^ 24 * 10 ^ 9)
    → unsigned_abs ((f *ℤ v) +ℤ s) ≤ suc n * (10 ^ 24 * 10 ^ 9)
sum_step f v s n a b h = omega (arith, abs_add (f *ℤ v) s, unsigned_abs-mul f v, mul-le-mul a b, h)

-- the sum of small terms over small values
sum_small : (ts : List Term) (x : List ℤ) → ((k : ℕ) → k < length ts → unsigned_abs (term_at ts k).factor ≤ 10 ^ 24)
    → ((k : ℕ) → k < length ts → unsigned_abs (value_at x (term_at ts k).column) ≤ 10 ^ 9)
    → unsigned_abs (sum_at ts x) ≤ length ts * (10 ^ 24 * 10 ^ 9)
sum_small [] x f v = omega arith
sum_small (t ∷ ts) x f v =
    sum_step t.factor (value_at x t.column) (sum_at ts x) (length ts) (f 0 (omega arith)) (v 0 (omega arith))
    (sum_small ts x (λ k lt. f (suc k) (omega arith)) (λ k lt. v (suc k) (omega arith)))

-- a column that stands for one that is not there
pub no_column : Column
no_column = record { name = []; low = pos 0; high = pos 0 }

-- each value of a point within all bounds is at most 10^9
value_small : (p : Instance) (x : List ℤ) (j : ℕ) → IsProblem p → IsInside (root_of p) x → j < length p.columns
    → unsigned_abs (value_at x j) ≤ 10 ^ 9
value_small p x j problem inside there =
    let column : IsColumn (slice_index_or p.columns j no_column) = All-get_or IsColumn p.columns j no_column there problem.formed.columns in
    let side : interval_at (root_of p) j ≡ bounds_of (slice_index_or p.columns j no_column) = get_or-map bounds_of p.columns j no_column no_interval there in
    let within : IsWithin (bounds_of (slice_index_or p.columns j no_column)) (value_at x j) =
    subst (λ s. IsWithin s (value_at x j)) side (inside.each j (subst (λ n. j < n) (sym (length-map p.columns bounds_of)) there)) in
    between _ _ _ column.low column.high within.low within.high

-- a value of at most 10^37 and a constant
pub value_sum : (s k : ℤ) (n : ℕ) → n ≤ 10 ^ 4 → unsigned_abs s ≤ n * (10 ^ 24 * 10 ^ 9) → unsigned_abs k ≤ 10 ^ 37 → unsigned_abs (s +ℤ k) ≤ 2 * 10 ^ 37
value_sum s k n few h c = omega (arith, abs_add s k, few, h, c)

-- the value of a point within all bounds is at most 2 * 10^37
pub value_within : (p : Instance) (x : List ℤ) → IsProblem p → IsInside (root_of p) x → unsigned_abs (value_of p.objective x) ≤ 2 * 10 ^ 37
value_within p x problem inside =
    let linear = linear_objective p problem in
    value_sum (sum_at p.objective.terms x) p.objective.constant (length p.objective.terms)
    (few_terms (length p.columns) p.objective.terms linear)
    (sum_small p.objective.terms x linear.small (λ k lt. value_small p x _ problem inside (linear.within k lt)))
    problem.objective.constant
