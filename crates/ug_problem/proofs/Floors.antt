-- How large the floor of a box below the root box is, and that it bounds the value of each point.
use Rattle.std.proofs.Common.{◌≡◌, inl, inr, refl, ap, ℕ, ℤ, pos, negsuc, ◌*◌, ◌^◌, ◌<◌, ◌≤◌, ◌≤ℤ◌, List, [], ◌∷◌, length, slice_index_or, unsigned_abs, suc, sym, subst, arith}
use Rattle.std.proofs.lemmas.Int.{ints}
use Rattle.std.proofs.lemmas.Bool.{cases_lt}
use Rattle.std.proofs.lemmas.List.{get_or-map, length-map}
use Rattle.std.proofs.lemmas.List.Elements.{All-get_or}
use Rattle.ug_rows.specs.declared.area.Interval.{Interval}
use Rattle.ug_rows.specs.declared.row.Term.{Term}
use Rattle.ug_rows.specs.declared.sums.Extreme.{Extreme}
use Rattle.ug_rows.specs.declared.sums.Extreme.TheVariants.{Least, Greatest}
use Rattle.ug_rows.specs.Boxes.{IsBelow, IsInside, IsNarrower, interval_at, no_interval}
use Rattle.ug_rows.specs.Rows.{IsLinear, sum_at, term_at, value_of}
use Rattle.ug_rows.specs.Sums.{box_floor, end_of, end_sum, least_sum}
use Rattle.ug_rows.proofs.EndBounds.{sum_bound}
use Rattle.ug_rows.proofs.SumLemmas.{few_terms}
use Rattle.ug_problem.specs.Instances.{Instance, IsColumn, bounds_of, root_of}
use Rattle.ug_problem.specs.Limits.{IsProblem}
use Rattle.ug_problem.proofs.Linear.{linear_objective}
use Rattle.ug_problem.proofs.Values.{between, no_column, sum_step, value_sum}

-- the objective of a problem is linear over a box as wide
pub objective_is_linear : (p : Instance) (area : List Interval) → IsProblem p → length area ≡ length p.columns
    → IsLinear (length area) p.objective.terms
objective_is_linear p area problem wide =
    subst (λ n. IsLinear n p.objective.terms) (sym wide) (linear_objective p problem)

-- both ends are at most 10^9 in absolute value
record HasBoundEnds (side : Interval) : Type 0 where
  low : unsigned_abs side.low ≤ 10 ^ 9
  high : unsigned_abs side.high ≤ 10 ^ 9

-- the ends of the root box are
root_ends : (p : Instance) (j : ℕ) → IsProblem p → j < length p.columns → HasBoundEnds (interval_at (root_of p) j)
root_ends p j problem there =
    let column : IsColumn (slice_index_or p.columns j no_column) =
    All-get_or IsColumn p.columns j no_column there problem.formed.columns in
    let side : interval_at (root_of p) j ≡ bounds_of (slice_index_or p.columns j no_column) =
    get_or-map bounds_of p.columns j no_column no_interval there in
    subst HasBoundEnds (sym side) (record { low = column.low; high = column.high })

-- so are those of an interval that has its low at most its high and is within
closed_ends : (inner outer : Interval) → HasBoundEnds outer → IsNarrower inner outer → inner.low ≤ℤ inner.high → HasBoundEnds inner
closed_ends inner outer h n some = record {
  low = between outer.low outer.high inner.low h.low h.high n.low (omega (arith, ints, some, n.high));
  high = between outer.low outer.high inner.high h.low h.high (omega (arith, ints, some, n.low)) n.high;
}

-- and so those of one that is narrower, which is the other or has its low at most its high
narrower_ends : (inner outer : Interval) → HasBoundEnds outer → IsNarrower inner outer → HasBoundEnds inner
narrower_ends inner outer h n = record {
  low = elim (cases_lt (10 ^ 9) (unsigned_abs inner.low)) [
    | inl wide ↦ (closed_ends inner outer h n
        (n.open_ (λ same. let e = ap (λ (s : Interval). unsigned_abs s.low) same in omega (arith, wide, e, h.low)))).low
    | inr small ↦ small
  ];
  high = elim (cases_lt (10 ^ 9) (unsigned_abs inner.high)) [
    | inl wide ↦ (closed_ends inner outer h n
        (n.open_ (λ same. let e = ap (λ (s : Interval). unsigned_abs s.high) same in omega (arith, wide, e, h.high)))).high
    | inr small ↦ small
  ];
}

end_small : (e : Extreme) (f : ℤ) (side : Interval) → HasBoundEnds side → unsigned_abs (end_of e f side) ≤ 10 ^ 9
end_small Least (pos n) side h = h.low
end_small Least (negsuc n) side h = h.high
end_small Greatest (pos n) side h = h.high
end_small Greatest (negsuc n) side h = h.low

-- the sum of small terms over small ends
ends_small : (e : Extreme) (ts : List Term) (area : List Interval)
    → ((k : ℕ) → k < length ts → unsigned_abs (term_at ts k).factor ≤ 10 ^ 24)
    → ((k : ℕ) → k < length ts → HasBoundEnds (interval_at area (term_at ts k).column))
    → unsigned_abs (end_sum e ts area) ≤ length ts * (10 ^ 24 * 10 ^ 9)
ends_small e [] area f v = omega arith
ends_small e (t ∷ ts) area f v =
    sum_step t.factor (end_of e t.factor (interval_at area t.column)) (end_sum e ts area) (length ts) (f 0 (omega arith))
    (end_small e t.factor (interval_at area t.column) (v 0 (omega arith)))
    (ends_small e ts area (λ k lt. f (suc k) (omega arith)) (λ k lt. v (suc k) (omega arith)))

-- the floor of a box below the root box is at most 2 * 10^37
pub floor_within : (p : Instance) (area : List Interval) → IsProblem p → IsBelow area (root_of p)
    → unsigned_abs (box_floor p.objective area) ≤ 2 * 10 ^ 37
floor_within p area problem below =
    let linear = linear_objective p problem in
    let wide : length (root_of p) ≡ length p.columns = length-map p.columns bounds_of in
    value_sum (least_sum p.objective.terms area) p.objective.constant (length p.objective.terms)
    (few_terms (length p.columns) p.objective.terms linear)
    (ends_small Least p.objective.terms area linear.small (λ k lt.
    narrower_ends _ _ (root_ends p _ problem (linear.within k lt))
    (below.each _ (subst (λ n. (term_at p.objective.terms k).column < n) (sym wide) (linear.within k lt)))))
    problem.objective.constant

-- the floor of a box is at most the value of each of its points
pub floor_bound : (p : Instance) (area : List Interval) (x : List ℤ) → IsProblem p → length area ≡ length p.columns
    → IsInside area x → box_floor p.objective area ≤ℤ value_of p.objective x
floor_bound p area x problem wide inside =
    let bound : least_sum p.objective.terms area ≤ℤ sum_at p.objective.terms x =
    sum_bound Least p.objective.terms area (least_sum p.objective.terms area) (objective_is_linear p area problem wide) refl x inside in
    omega (arith, ints, bound)
