-- How large a cutoff is, and which points are below it.
use Rattle.std.proofs.Common.{◌≡◌, ℕ, ℤ, pos, ◌+ℤ◌, ◌-ℤ◌, ◌*◌, ◌^◌, ◌≤◌, ◌≤ℤ◌, ◌<ℤ◌, ◌⊎◌, inl, inr, List, Option, Some, None, IfSome, unsigned_abs, arith}
use Rattle.std.proofs.lemmas.Int.{ints, by_lt_z}
use Rattle.std.proofs.lemmas.List.{length-map}
use Rattle.std.specs.Int.{int_max}
use Rattle.ug_rows.specs.Boxes.{IsInside}
use Rattle.ug_rows.specs.Rows.{value_of}
use Rattle.ug_rows.specs.Sums.{box_floor}
use Rattle.ug_rows.proofs.AreaLemmas.{below_itself}
use Rattle.ug_problem.specs.Instances.{Instance, bounds_of, root_of}
use Rattle.ug_problem.specs.Limits.{IsProblem}
use Rattle.ug_problem.specs.Incumbents.{Incumbent, cutoff_point}
use Rattle.ug_problem.specs.Better.{Better, BetterIsBelowCutoff, IsGap, IsGood, best_cutoff, cutoff_of}
use Rattle.ug_problem.proofs.Floors.{floor_bound, floor_within}
use Rattle.ug_problem.proofs.Values.{value_within}

-- the larger of two is one of them, and at least each
max_is : (a b : ℤ) → ((int_max a b ≡ a) × (b ≤ℤ a)) ⊎ ((int_max a b ≡ b) × (a ≤ℤ b))
max_is a b = by_lt_z b a
    (λ less. inl (grind (arith, ints, less), omega (arith, ints, less)))
    (λ more. inr (grind (arith, ints, more), more))

-- the floor of the root box is at most the value of each point within all bounds
root_bound : (p : Instance) (x : List ℤ) → IsProblem p → IsInside (root_of p) x
    → box_floor p.objective (root_of p) ≤ℤ value_of p.objective x
root_bound p x problem inside = floor_bound p (root_of p) x problem (length-map p.columns bounds_of) inside

-- the larger of a number less a gap and one that is at most the number is between the two
between_ends : (v gap low : ℤ) (n : ℕ) → pos 0 ≤ℤ gap → low ≤ℤ v → unsigned_abs low ≤ n → unsigned_abs v ≤ n
    → unsigned_abs (int_max (v -ℤ gap) low) ≤ n
between_ends v gap low n g h a b = elim (max_is (v -ℤ gap) low) [
  | inl m ↦ rw m.0 (omega (arith, ints, g, h, a, b, m.1))
  | inr m ↦ rw m.0 a
]

-- the cutoff of a point within all bounds is at most 2 * 10^37
pub cutoff_small : (p : Instance) (gap : ℤ) (x : List ℤ) (r : ℤ) → IsProblem p → IsGap gap → r ≡ cutoff_of p gap x
    → IsInside (root_of p) x → unsigned_abs r ≤ 2 * 10 ^ 37
cutoff_small p gap x r problem g e inside =
    rw e (between_ends (value_of p.objective x) gap (box_floor p.objective (root_of p)) (2 * 10 ^ 37) g.low
    (root_bound p x problem inside) (floor_within p (root_of p) problem (below_itself (root_of p)))
    (value_within p x problem inside))

no_gap_max : (v gap low : ℤ) → gap ≡ pos 0 → low ≤ℤ v → int_max (v -ℤ gap) low ≡ v
no_gap_max v gap low z h = elim (max_is (v -ℤ gap) low) [
  | inl m ↦ let e = m.0 in omega (arith, ints, z, e)
  | inr m ↦ let e = m.0 in omega (arith, ints, z, e, h, m.1)
]

-- without a gap the cutoff of a point within all bounds is its value
pub cutoff_without_gap : (p : Instance) (gap : ℤ) (x : List ℤ) → IsProblem p → gap ≡ pos 0 → IsInside (root_of p) x
    → cutoff_of p gap x ≡ value_of p.objective x
cutoff_without_gap p gap x problem z inside =
    no_gap_max (value_of p.objective x) gap (box_floor p.objective (root_of p)) z (root_bound p x problem inside)

-- a value that is at least a floor is less by more than a gap exactly where it is below the cutoff
below_max : (v w gap low : ℤ) → (v +ℤ gap) <ℤ w → v <ℤ int_max (w -ℤ gap) low
below_max v w gap low less = elim (max_is (w -ℤ gap) low) [
  | inl m ↦ let e = m.0 in omega (arith, ints, less, e)
  | inr m ↦ let e = m.0 in omega (arith, ints, less, e, m.1)
]

at_once : (v low : ℤ) → low ≤ℤ v → v <ℤ low → ⊥
at_once v low h k = omega (arith, ints, h, k)

less_of_max : (v w gap low : ℤ) → low ≤ℤ v → v <ℤ int_max (w -ℤ gap) low → (v +ℤ gap) <ℤ w
less_of_max v w gap low h less = elim (max_is (w -ℤ gap) low) [
  | inl m ↦ let e = m.0 in omega (arith, ints, less, e)
  | inr m ↦ let e = m.0 in absurd (at_once v low h (omega (arith, ints, less, e)))
]

below_best : (p : Instance) (gap : ℤ) (best : Option (List ℤ)) (x : List ℤ)
    → IfSome best (λ y. (value_of p.objective x +ℤ gap) <ℤ value_of p.objective y)
    → IfSome (best_cutoff p gap best) (λ c. value_of p.objective x <ℤ c)
below_best p gap None x less = tt
below_best p gap (Some y) x less =
    below_max (value_of p.objective x) (value_of p.objective y) gap (box_floor p.objective (root_of p)) less

above_best : (p : Instance) (gap : ℤ) (best : Option (List ℤ)) (x : List ℤ) → box_floor p.objective (root_of p) ≤ℤ value_of p.objective x
    → IfSome (best_cutoff p gap best) (λ c. value_of p.objective x <ℤ c)
    → IfSome best (λ y. (value_of p.objective x +ℤ gap) <ℤ value_of p.objective y)
above_best p gap None x h less = tt
above_best p gap (Some y) x h less =
    less_of_max (value_of p.objective x) (value_of p.objective y) gap (box_floor p.objective (root_of p)) h less

-- a better point is a feasible one with a value below the cutoff of the point that it has to beat
pub better_is_good : (p : Instance) (gap : ℤ) (best : Incumbent) (x : List ℤ) → Better p gap best x
    → IsGood p (best_cutoff p gap (cutoff_point best)) x
better_is_good p gap best x better = record {
  feasible = better.feasible;
  less = below_best p gap (cutoff_point best) x better.less;
}

-- a good point's value is less by more than the gap
pub good_is_less : (p : Instance) (gap : ℤ) (point : Option (List ℤ)) (x : List ℤ) → IsProblem p
    → IsGood p (best_cutoff p gap point) x
    → IfSome point (λ y. (value_of p.objective x +ℤ gap) <ℤ value_of p.objective y)
good_is_less p gap point x problem good =
    above_best p gap point x (root_bound p x problem good.feasible.inside) good.less

pub better_below_cutoff : BetterIsBelowCutoff
better_below_cutoff p gap best x problem = (
  λ better. (better_is_good p gap best x better, better.other),
  λ (good, other). record {
    feasible = good.feasible;
    other = other;
    less = good_is_less p gap (cutoff_point best) x problem good;
  },
)
