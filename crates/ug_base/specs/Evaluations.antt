-- What a look at a box sees, and what that means for the search.
use Rattle.std.specs.Prelude.{◌≡◌, ℤ, ◌+◌, ◌<◌, ◌⊎◌, List, map, Option}
use Rattle.ug_rows.specs.declared.area.Interval.{Interval}
use Rattle.ug_rows.specs.Boxes.{IsInside, IsBelow, IsNonEmpty, IsCrossed, IsFixed}
use Rattle.ug_problem.specs.Instances.{Instance, root_of}
use Rattle.ug_problem.specs.Limits.{IsProblem}
use Rattle.ug_branch.specs.declared.params.Params.{Params}
use Rattle.ug_branch.specs.declared.params.Half.{Half}
use Rattle.ug_branch.specs.declared.choice.Branch.{Branch}
use Rattle.ug_branch.specs.Choices.{AreHalves}
use Rattle.ug_propagate.specs.declared.tight.Tight.TheVariants.{Kept}
use Rattle.ug_propagate.specs.Rounds.{rounds}
use Rattle.ug_propagate.specs.Working.{IsWorking, WorkState}
use Rattle.ug_base.specs.declared.evaluation.Seen.{Seen}
use Rattle.ug_base.specs.declared.evaluation.Seen.TheVariants.{Hopeless, Solved, Branched}
use Rattle.ug_problem.specs.Better.{IsGood, HasNoGood, IsSmallCutoff}
use Rattle.ug_base.specs.Points.{weight_of}
use Rattle.ug_base.specs.Steps.{IsHopeless}
use Rattle.ug_base.specs.declared.branching.Branching.{Branching}
use Rattle.ug_base.specs.Branchings.{IsMidway, MayBranch, first_half, other_half}

-- a box below the problem's root box, and a cutoff that is not too large
pub record CanEvaluate (p : Instance) (cutoff : Option ℤ) (area : List Interval) : Type 0 where
  pub problem : IsProblem p
  pub below : IsBelow area (root_of p)
  pub small : IsSmallCutoff cutoff

-- two branches of a box: the one that comes first, and the other
pub record Halves : Type 0 where
  pub first : List Interval
  pub second : List Interval

-- the branches of the box at the branch
abbrev pub halves_at : Half → List Interval → Branch → Halves
halves_at half area branch =
    record { first = first_half half area branch; second = other_half half area branch }

-- the point with each column at its low
abbrev pub lows_of : List Interval → List ℤ
lows_of area = map (λ (side : Interval). side.low) area

-- the branches of the box at the branching, in order
pub record AreOrdered (half : Half) (area : List Interval) (branch : Branch) (halves : Halves) :
    Type 0 where
  pub first : halves.first ≡ first_half half area branch
  pub second : halves.second ≡ other_half half area branch

-- x is the one point of the box
pub record IsOnly (area : List Interval) (x : List ℤ) : Type 0 where
  pub fixed : IsFixed area
  pub point : IsInside area x

-- the box has a point, and these are its branches
pub record AreBranched (params : Params) (area : List Interval) (halves : Halves) : Type 0 where
  pub some : IsNonEmpty area
  pub branching : Branching
  pub may : MayBranch params.base params area branching
  pub midway : IsMidway area branching.branch
  pub open_boxes : AreHalves area branching.branch
  pub ordered : AreOrdered branching.first area branching.branch halves

-- the box has a point and an open column, at which it is branched
pub record IsBranched (params : Params) (area : List Interval) (branching : Branching) : Type 0 where
  pub some : IsNonEmpty area
  pub may : MayBranch params.base params area branching
  pub midway : IsMidway area branching.branch
  pub open_boxes : AreHalves area branching.branch

-- the result of evaluating what is left of a box
abbrev pub IsInSight : Params → List Interval → Seen → Type 0
IsInSight params area (Hopeless reason) = IsCrossed area
IsInSight params area (Solved x) = IsOnly area x
IsInSight params area (Branched branching) = IsBranched params area branching

-- no point of the box is good
pub record IsSeenHopeless (p : Instance) (cutoff : Option ℤ) (area : List Interval) : Type 0 where
  pub hopeless : IsHopeless (rounds p cutoff area)
  pub none : HasNoGood p cutoff area

-- each good point of a box is in what is left of it
abbrev pub KeepsGood : Instance → Option ℤ → List Interval → List Interval → Type 0
KeepsGood p cutoff area inner =
    (y : List ℤ) → IsInside area y → IsGood p cutoff y → IsInside inner y

-- x is good, and no other point of the box is
pub record IsOnlyGood (p : Instance) (cutoff : Option ℤ) (area : List Interval) (x : List ℤ) :
    Type 0 where
  pub good : IsGood p cutoff x
  pub alone : (y : List ℤ) → IsInside area y → IsGood p cutoff y → y ≡ x

-- the branches are below the box and have each good point of it
pub record AreGoodHalves (p : Instance) (cutoff : Option ℤ) (area : List Interval) (halves : Halves)
    : Type 0 where
  pub below_first : IsBelow halves.first area
  pub below_second : IsBelow halves.second area
  pub kept : (y : List ℤ) → IsInside area y → IsGood p cutoff y
      → IsInside halves.first y ⊎ IsInside halves.second y

-- x is good, and no other point of the box is
pub record IsSeenSolved (p : Instance) (cutoff : Option ℤ) (area : List Interval) (x : List ℤ) :
    Type 0 where
  pub inner : List Interval
  pub left : rounds p cutoff area ≡ Kept inner
  pub below : IsBelow inner area
  pub fixed : IsFixed inner
  pub point : IsInside inner x
  pub keeps : KeepsGood p cutoff area inner
  pub only : IsOnlyGood p cutoff area x

-- the branches are below the box, have each good point of it, and leave less to search
pub record IsSeenSplit (p : Instance) (cutoff : Option ℤ) (params : Params) (area : List Interval)
    (halves : Halves) : Type 0 where
  pub inner : List Interval
  pub left : rounds p cutoff area ≡ Kept inner
  pub some : IsNonEmpty inner
  pub branching : Branching
  pub may : MayBranch params.base params inner branching
  pub ordered : AreOrdered branching.first inner branching.branch halves
  pub good : AreGoodHalves p cutoff area halves
  pub less : weight_of halves.second + weight_of halves.first < weight_of area

-- the working box is what is left of the box, and has two branches
pub record IsSeenBranched (p : Instance) (cutoff : Option ℤ) (params : Params)
    (area : List Interval) (work : WorkState) (branching : Branching) : Type 0 where
  pub halved : IsSeenSplit p cutoff params area
      (halves_at branching.first work.sums.area branching.branch)
  pub branched : IsBranched params work.sums.area branching
  pub left : rounds p cutoff area ≡ Kept work.sums.area
  pub keeps : KeepsGood p cutoff area work.sums.area
  pub below : IsBelow work.sums.area area
  pub working : IsWorking p cutoff work

-- what this look at a box saw, in the working box that it left
abbrev pub IsSeen : Instance → Option ℤ → Params → List Interval → WorkState → Seen → Type 0
IsSeen p cutoff params area work (Hopeless reason) = IsSeenHopeless p cutoff area
IsSeen p cutoff params area work (Solved x) = IsSeenSolved p cutoff area x
IsSeen p cutoff params area work (Branched branching) =
    IsSeenBranched p cutoff params area work branching
