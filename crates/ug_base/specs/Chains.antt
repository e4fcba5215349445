-- Boxes left as chains: each is the working box as it was after some of its changes, with one
-- column narrowed.
use Rattle.std.specs.Prelude.{◌≡◌, ℕ, ℤ, pos, ◌+ℤ◌, ◌-◌, ◌<◌, ◌≤◌, List, [], ◌∷◌, ◌++◌, length, drop}
use Rattle.std.specs.Prelude.{map, slice_index_or, slice_set, All, Option, Some, None}
use Rattle.ug_rows.specs.declared.area.Interval.{Interval}
use Rattle.ug_rows.specs.Boxes.{IsBelow, IsClosedWithin, IsNonEmpty, interval_at}
use Rattle.ug_rows.specs.Sums.{box_floor}
use Rattle.ug_branch.specs.declared.params.Half.{Half}
use Rattle.ug_branch.specs.declared.params.Half.TheVariants.{Lower, Upper}
use Rattle.ug_branch.specs.declared.choice.Branch.{Branch}
use Rattle.ug_branch.specs.Choices.{AreClosed}
use Rattle.ug_problem.specs.Instances.{Instance}
use Rattle.ug_propagate.specs.declared.fixpoint.Fixpoint.TheVariants.{Unknown}
use Rattle.ug_propagate.specs.Working.{AllAtFixpoint, AreTrailed, AreMaxSpans, IsBox, WorkState, undone}
use Rattle.ug_base.specs.declared.open_box.Narrowing.{Narrowing}
use Rattle.ug_base.specs.declared.open_box.OpenBox.{OpenBox}
use Rattle.ug_base.specs.Fronts.{front_of}
use Rattle.ug_base.specs.Branchings.{first_half, other_half}

-- the working box as it was after the part's changes
abbrev pub base_of : WorkState → OpenBox → List Interval
base_of work open_box = undone work.sums.area (drop open_box.depth work.trail)

-- the box with a column narrowed, if one is
abbrev pub narrowed : Option Narrowing → List Interval → List Interval
narrowed None area = area
narrowed (Some cut) area = slice_set area cut.column cut.side

-- the box of a part
abbrev pub area_of : WorkState → OpenBox → List Interval
area_of work open_box = narrowed open_box.cut (base_of work open_box)

-- the boxes of parts
abbrev pub areas_of : WorkState → List OpenBox → List (List Interval)
areas_of work open_boxes = map (area_of work) open_boxes

-- a column of a box with a point is narrowed to an interval with a value
pub record IsNarrowing (p : Instance) (base : List Interval) (cut : Narrowing) : Type 0 where
  pub there : cut.column < length p.columns
  pub inner : IsClosedWithin cut.side (interval_at base cut.column)
  pub some : IsNonEmpty base

-- the same, or none is narrowed
abbrev pub IsCut : Instance → List Interval → Option Narrowing → Type 0
IsCut p base None = Unit {0}
IsCut p base (Some cut) = IsNarrowing p base cut

-- a part of the search of a whole box, over this working box
pub record IsOpenBox (p : Instance) (whole : List Interval) (work : WorkState) (open_box : OpenBox) :
    Type 0 where
  pub deep : open_box.depth ≤ length work.trail
  pub below : IsBelow (base_of work open_box) whole
  pub cut : IsCut p (base_of work open_box) open_box.cut
  pub fixpoint : AllAtFixpoint p open_box.fixpoint (base_of work open_box)
  pub floor : open_box.floor ≡ box_floor p.objective (area_of work open_box)
  pub closed : AreClosed open_box.closed (area_of work open_box)

-- what the working box keeps in the search of a whole box
pub record IsBase (p : Instance) (whole : List Interval) (work : WorkState) : Type 0 where
  pub box : IsBox p work
  pub trail : AreTrailed (length p.columns) work.trail
  pub max_span : AreMaxSpans p whole work.max_span

-- the part, of which it is not known how its parent's rows rested
abbrev pub unsettled : OpenBox → OpenBox
unsettled open_box = record open_box { fixpoint = Unknown }

-- a part that stands for one that is not there
abbrev pub no_open_box : OpenBox
no_open_box =
    record { depth = 0; cut = None; floor = pos 0; fixpoint = Unknown; closed = 0 }

-- how many of the first columns are known to be closed in the last part's box
abbrev pub closed_of : List OpenBox → ℕ
closed_of open_boxes = (slice_index_or open_boxes (length open_boxes - 1) no_open_box).closed

-- each part has no fewer changes than those before it
abbrev pub Rise : List OpenBox → Type 0
Rise [] = Unit {0}
Rise (open_box ∷ open_boxes) = All (λ (later : OpenBox). open_box.depth ≤ later.depth) open_boxes × Rise open_boxes

-- the parts of the search
pub record IsChain (p : Instance) (whole : List Interval) (work : WorkState) (open_boxes : List OpenBox) :
    Type 0 where
  pub base : IsBase p whole work
  pub each : All (IsOpenBox p whole work) open_boxes
  pub rising : Rise open_boxes

-- parts with at most this many changes have the boxes that they had
pub record KeepsBases (depth : ℕ) (old new : WorkState) : Type 0 where
  pub deep : depth ≤ length new.trail
  pub bases : (open_box : OpenBox) → open_box.depth ≤ depth → base_of new open_box ≡ base_of old open_box

-- the half of an interval that comes first
abbrev pub first_side : Half → Interval → ℤ → Interval
first_side Lower side middle = record { low = side.low; high = middle }
first_side Upper side middle = record { low = middle +ℤ pos 1; high = side.high }

-- the other half
abbrev pub other_side : Half → Interval → ℤ → Interval
other_side Lower side middle = record { low = middle +ℤ pos 1; high = side.high }
other_side Upper side middle = record { low = side.low; high = middle }

-- two parts are in the last one's place: the branches of the working box, the one that comes first
-- on top
pub record HasSplit (p : Instance) (whole : List Interval) (work : WorkState) (half : Half)
    (branch : Branch)
    (old new : List OpenBox) : Type 0 where
  pub first : OpenBox
  pub second : OpenBox
  pub put : new ≡ front_of old ++ second ∷ first ∷ []
  pub area_first : area_of work first ≡ first_half half work.sums.area branch
  pub area_second : area_of work second ≡ other_half half work.sums.area branch
  pub chain : IsChain p whole work new
