-- A frame can carry the points of a problem, and the changes of its boxes.
use Rattle.std.proofs.Common.{◌≡◌, ℕ, ℤ, pos, ◌≤ℤ◌, zero, suc, ◌<◌, ◌≤◌, ◌^◌, List, [], ◌∷◌, length, map, All, unsigned_abs, ◌∙◌, arith}
use Rattle.std.proofs.lemmas.Int.{ints}
use Rattle.std.proofs.lemmas.List.{length-map}
use Rattle.std.proofs.lemmas.List.Elements.{All-from_get_or, All-tail}
use Rattle.ug_rows.specs.Boxes.{interval_at, value_at}
use Rattle.ug_problem.specs.declared.column.Column.{Column}
use Rattle.ug_problem.specs.Feasible.{Feasible}
use Rattle.ug_problem.specs.Instances.{Instance, IsColumn, bounds_of, root_of}
use Rattle.ug_problem.specs.Limits.{IsProblem}
use Rattle.ug_nodes.specs.declared.change.Change.{Change}
use Rattle.ug_nodes.specs.Changes.{AreChangesOf, IsChangeOf, IsRising, change_at, no_change}
use Rattle.ug_frames.specs.Ranges.{AreChanges, IsColumnValue, IsPoint, IsSmallChange}

-- the bounds of a column are small
root_ends : (cs : List Column) (j : ℕ) → j < length cs → All IsColumn cs
    → IsColumnValue (interval_at (map bounds_of cs) j).low
    × IsColumnValue (interval_at (map bounds_of cs) j).high
root_ends [] j lt all = absurd (omega (arith, lt))
root_ends (c ∷ cs) zero lt all = let own = all 0 c (omega arith) in (own.low, own.high)
root_ends (c ∷ cs) (suc j) lt all =
    root_ends cs j (omega (arith, lt)) (All-tail IsColumn c cs all)

-- and so is what lies between them
between : (low high a : ℤ) → low ≤ℤ a → a ≤ℤ high → unsigned_abs low ≤ 10 ^ 9
    → unsigned_abs high ≤ 10 ^ 9 → IsColumnValue a
between low high a f g s t = omega (arith, ints, f, g, s, t)

value_small : (p : Instance) (x : List ℤ) (j : ℕ) → IsProblem p → Feasible p x → j < length x
    → IsColumnValue (value_at x j)
value_small p x j problem feasible lt =
    let width : length x ≡ length p.columns = feasible.inside.width ∙ length-map p.columns bounds_of in
    let ends = root_ends p.columns j (omega (arith, lt, width)) problem.formed.columns in
    let within = feasible.inside.each j (omega (arith, lt, feasible.inside.width)) in
    between (interval_at (root_of p) j).low (interval_at (root_of p) j).high (value_at x j) within.low within.high
    ends.0 ends.1

pub point_fits : (p : Instance) (x : List ℤ) → IsProblem p → Feasible p x → IsPoint x
point_fits p x problem feasible = record {
  few = omega (arith, problem.counts.columns, feasible.inside.width, length-map p.columns bounds_of);
  small = All-from_get_or IsColumnValue x (pos 0) (λ j lt. value_small p x j problem feasible lt);
}

small_change : (p : Instance) (change : Change) → IsProblem p → IsChangeOf (root_of p) change
    → IsSmallChange change
small_change p change problem own =
    let there : change.column < length p.columns =
    omega (arith, own.differs.there, length-map p.columns bounds_of) in
    let ends = root_ends p.columns change.column there problem.formed.columns in
    let root = interval_at (root_of p) change.column in
    let closed = own.within.some in
    record {
      column = omega (arith, there, problem.counts.columns);
      closed = own.within.some;
      low = omega (arith, ints, own.within.low, own.within.high, closed, ends.0, ends.1);
      high = omega (arith, ints, own.within.low, own.within.high, closed, ends.0, ends.1);
    }

pub changes_fit : (p : Instance) (changes : List Change) → IsProblem p → IsRising changes
    → AreChangesOf (root_of p) changes → AreChanges changes
changes_fit p changes problem rising own = record {
  rising = rising;
  each = All-from_get_or IsSmallChange changes no_change
      (λ k lt. small_change p (change_at changes k) problem (own k lt));
}
