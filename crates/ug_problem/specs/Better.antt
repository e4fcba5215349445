-- Which points are better than an incumbent by more than a gap, and where these have to lie.
use Rattle.std.specs.Prelude.{ℤ, pos, ◌+ℤ◌, ◌-ℤ◌, ◌≤ℤ◌, ◌<ℤ◌, ◌*◌, ◌^◌, ◌≤◌, ◌↔◌, List, All, Contains}
use Rattle.std.specs.Prelude.{Option, IfSome, unsigned_abs}
use Rattle.std.specs.Option.{option_map}
use Rattle.std.specs.Int.{int_max}
use Rattle.ug_rows.specs.declared.area.Interval.{Interval}
use Rattle.ug_rows.specs.Boxes.{IsInOne, IsInside}
use Rattle.ug_rows.specs.Rows.{value_of}
use Rattle.ug_rows.specs.Sums.{box_floor}
use Rattle.ug_problem.specs.Instances.{Instance, root_of}
use Rattle.ug_problem.specs.Feasible.{Feasible}
use Rattle.ug_problem.specs.Incumbents.{Incumbent, cutoff_point}
use Rattle.ug_problem.specs.Limits.{IsProblem}

-- a gap, multiplied by ten to the objective's scale: from 0 to the most by which two values differ
pub record IsGap (gap : ℤ) : Type 0 where
  pub low : pos 0 ≤ℤ gap
  pub high : gap ≤ℤ pos (4 * 10 ^ 37)

-- x is feasible and not kept, and where as many points are kept as may be, the value of x is less
-- than that of the last of them by more than the gap
pub record Better (p : Instance) (gap : ℤ) (best : Incumbent) (x : List ℤ) : Type 0 where
  pub feasible : Feasible p x
  pub other : ¬ Contains best.points x
  pub less : IfSome (cutoff_point best)
      (λ y. (value_of p.objective x +ℤ gap) <ℤ value_of p.objective y)

-- if one point is kept at most: x is feasible, and there is no such point, or the value of x is
-- smaller by more than the gap than the value of it
pub record BetterThanOne (p : Instance) (gap : ℤ) (best : Option (List ℤ)) (x : List ℤ)
    : Type 0 where
  pub feasible : Feasible p x
  pub less : IfSome best (λ y. (value_of p.objective x +ℤ gap) <ℤ value_of p.objective y)

-- the cutoff of a point: its value less the gap, or the floor of the root box where that is greater
abbrev pub cutoff_of : Instance → ℤ → List ℤ → ℤ
cutoff_of p gap x = int_max (value_of p.objective x -ℤ gap) (box_floor p.objective (root_of p))

-- the cutoff of a point, if there is one
abbrev pub best_cutoff : Instance → ℤ → Option (List ℤ) → Option ℤ
best_cutoff p gap best = option_map (cutoff_of p gap) best

-- a cutoff, if there is one, is at most 2 * 10^37
abbrev pub IsSmallCutoff : Option ℤ → Type 0
IsSmallCutoff cutoff = IfSome cutoff (λ c. unsigned_abs c ≤ 2 * 10 ^ 37)

-- x is feasible, and its value is below the cutoff, if there is one
pub record IsGood (p : Instance) (cutoff : Option ℤ) (x : List ℤ) : Type 0 where
  pub feasible : Feasible p x
  pub less : IfSome cutoff (λ c. value_of p.objective x <ℤ c)

-- no point of the box is good
abbrev pub HasNoGood : Instance → Option ℤ → List Interval → Type 0
HasNoGood p cutoff area = (x : List ℤ) → IsInside area x → ¬ IsGood p cutoff x

-- each good point of the whole box lies in one of the boxes handed
abbrev pub AreAllHanded : Instance → Option ℤ → List Interval → List (List Interval) → Type 0
AreAllHanded p cutoff whole handed =
    (x : List ℤ) → IsInside whole x → IsGood p cutoff x → IsInOne handed x

-- the points kept are feasible, and each better point lies in one of the boxes
pub record Covered (p : Instance) (gap : ℤ) (best : Incumbent)
    (boxes : List (List Interval)) : Type 0 where
  pub incumbent : All (Feasible p) best.points
  pub points : (x : List ℤ) → Better p gap best x → IsInOne boxes x

-- a better point is exactly a feasible one that is not kept, with a value below the cutoff of the
-- point that it has to beat
abbrev pub BetterIsBelowCutoff : Type 0
BetterIsBelowCutoff = (p : Instance) (gap : ℤ) (best : Incumbent) (x : List ℤ) → IsProblem p
    → Better p gap best x
    ↔ (IsGood p (best_cutoff p gap (cutoff_point best)) x × ¬ Contains best.points x)

-- boxes that are Covered under a gap are so under a larger one
abbrev pub CoveredUnderMore : Type 0
CoveredUnderMore =
    (p : Instance) (gap more : ℤ) (best : Incumbent) (boxes : List (List Interval)) → gap ≤ℤ more
    → Covered p gap best boxes → Covered p more best boxes
