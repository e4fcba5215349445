-- A task: the search of a whole box for points with a value below the cutoff.
use Rattle.std.specs.Prelude.{◌≡◌, ℤ, ◌≤ℤ◌, List, All, Contains, Option, Some, None, int_lt}
use Rattle.std.specs.Prelude.{if◌then◌else◌}
use Rattle.ug_rows.specs.declared.area.Interval.{Interval}
use Rattle.ug_rows.specs.Boxes.{IsBelow, IsInside, IsInOne}
use Rattle.ug_rows.specs.Rows.{value_of}
use Rattle.ug_rows.specs.Sums.{box_floor}
use Rattle.ug_problem.specs.Instances.{Instance, root_of}
use Rattle.ug_problem.specs.Limits.{IsProblem}
use Rattle.ug_branch.specs.declared.params.Params.{Params}
use Rattle.ug_nodes.specs.declared.name.Ticket.{Ticket}
use Rattle.ug_problem.specs.Better.{IsGap, IsGood, IsSmallCutoff}
use Rattle.ug_base.specs.Covers.{AreCovered}

-- the problem, the ticket of the assignment, the parameters, the whole box, the cutoff if there is
-- one, the gap, the boxes left, and the boxes handed, in order
pub record TaskState : Type 0 where
  pub problem : Instance
  pub ticket : Ticket
  pub params : Params
  pub whole : List Interval
  pub cutoff : Option ℤ
  pub gap : ℤ
  pub boxes : List (List Interval)
  pub handed : List (List Interval)

-- each box is below the whole box
abbrev pub AreBelow : List Interval → List (List Interval) → Type 0
AreBelow whole boxes = All (λ (area : List Interval). IsBelow area whole) boxes

-- what every task is: the boxes left and those handed are below the whole box, and have each good
-- point of it
pub record IsTask (t : TaskState) : Type 0 where
  pub problem : IsProblem t.problem
  pub whole : IsBelow t.whole (root_of t.problem)
  pub cutoff : IsSmallCutoff t.cutoff
  pub gap : IsGap t.gap
  pub below : AreBelow t.whole t.boxes
  pub handed_below : AreBelow t.whole t.handed
  pub covered : AreCovered t.problem t.cutoff t.whole t.boxes t.handed

-- the smaller of a cutoff, if there is one, and another
abbrev pub lesser_of : Option ℤ → ℤ → ℤ
lesser_of None given = given
lesser_of (Some old) given = (if int_lt old given then old else given)

-- the least floor of the boxes: it is the floor of one of them, and at most that of each
pub record IsLeastFloor (p : Instance) (boxes : List (List Interval)) (low : ℤ) : Type 0 where
  pub area : List Interval
  pub among : Contains boxes area
  pub reached : box_floor p.objective area ≡ low
  pub least : (other : List Interval) → Contains boxes other → low ≤ℤ box_floor p.objective other

-- each good point of the whole box that is in no box handed has at least this value
abbrev pub BoundsTheRest : TaskState → ℤ → Type 0
BoundsTheRest t low = (x : List ℤ) → IsInside t.whole x → IsGood t.problem t.cutoff x
    → ¬ IsInOne t.handed x
    → low ≤ℤ value_of t.problem.objective x
