-- Branching: where, and which half comes first.
use Rattle.std.specs.Prelude.{◌≡◌, List}
use Rattle.ug_rows.specs.declared.area.Interval.{Interval}
use Rattle.ug_rows.specs.Boxes.{interval_at}
use Rattle.ug_branch.specs.declared.params.Base.{Base}
use Rattle.ug_branch.specs.declared.params.Base.TheVariants.{Bound, Surrogate}
use Rattle.ug_branch.specs.declared.params.Half.{Half}
use Rattle.ug_branch.specs.declared.params.Half.TheVariants.{Lower, Upper}
use Rattle.ug_branch.specs.declared.params.Params.{Params}
use Rattle.ug_branch.specs.declared.choice.Branch.{Branch}
use Rattle.ug_branch.specs.Choices.{IsChosen, IsMiddle, IsOpen, lower_half, upper_half}
use Rattle.ug_base.specs.declared.branching.Branching.{Branching}

-- the half that comes first
abbrev pub first_half : Half → List Interval → Branch → List Interval
first_half Lower area branch = lower_half area branch
first_half Upper area branch = upper_half area branch

-- the other half
abbrev pub other_half : Half → List Interval → Branch → List Interval
other_half Lower area branch = upper_half area branch
other_half Upper area branch = lower_half area branch

-- the column is open, and the value is its middle
pub record IsMidway (area : List Interval) (branch : Branch) : Type 0 where
  pub open_ : IsOpen area branch.column
  pub middle : IsMiddle (interval_at area branch.column) branch.middle

-- the column and the half are those that the params choose
pub record IsByParams (params : Params) (area : List Interval) (branching : Branching) : Type 0 where
  pub chosen : IsChosen params area branching.branch
  pub first : branching.first ≡ params.half

-- a box may be branched so: as the parameters choose, or with the base surrogate at any open column
-- with either half first
abbrev pub MayBranch : Base → Params → List Interval → Branching → Type 0
MayBranch Bound params area branching = IsByParams params area branching
MayBranch Surrogate params area branching = IsMidway area branching.branch
