-- What bound propagation is given, and what it says of the points of a box.
use Rattle.std.specs.Prelude.{◌≡◌, ℕ, ℤ, ◌<◌, ◌<ℤ◌, ◌⊎◌, List, length, Option, Some, None}
use Rattle.std.specs.Prelude.{MatchOption}
use Rattle.ug_rows.specs.declared.area.Interval.{Interval}
use Rattle.ug_rows.specs.declared.row.Row.{Row}
use Rattle.ug_rows.specs.Boxes.{IsBelow, IsCrossed, IsFixed, IsInside}
use Rattle.ug_rows.specs.Sums.{least_sum, greatest_sum}
use Rattle.ug_problem.specs.Instances.{Instance, root_of, row_at}
use Rattle.ug_problem.specs.Better.{IsGood, IsSmallCutoff}
use Rattle.ug_propagate.specs.declared.tight.Tight.{Tight}
use Rattle.ug_propagate.specs.declared.tight.Tight.TheVariants.{Kept, Empty}
use Rattle.ug_propagate.specs.declared.tight.Reason.{Reason}
use Rattle.ug_propagate.specs.declared.tight.Side.{Side}
use Rattle.ug_propagate.specs.declared.tight.Side.TheVariants.{Low, High}
use Rattle.ug_propagate.specs.Rounds.{cutoff_row, rounds}

-- x is among what is left
abbrev pub Holds : Tight → List ℤ → Type 0
Holds (Kept area) x = IsInside area x
Holds (Empty _) x = ⊥

-- each good point of the box is among what is left; so none is, where nothing is left
abbrev pub KeepsGood : Instance → Option ℤ → List Interval → Tight → Type 0
KeepsGood p cutoff area tight = (x : List ℤ) → IsInside area x → IsGood p cutoff x → Holds tight x

-- the rest is below the box
abbrev pub IsLeftOf : List Interval → Tight → Type 0
IsLeftOf area (Kept left) = IsBelow left area
IsLeftOf area (Empty _) = Unit {0}

-- the row that is named so: one of the problem, or the objective under a cutoff
abbrev pub IsNamed : Instance → Option ℤ → Option ℕ → Row → Type 0
IsNamed p cutoff (Some r) row = (r < length p.rows) × (row ≡ row_at p r)
IsNamed p cutoff None row = MatchOption cutoff ⊥ (λ c. row ≡ cutoff_row p.objective c)

-- over the box no sum of the row satisfies this side
abbrev pub IsMissed : Side → Row → List Interval → Type 0
IsMissed Low row area = MatchOption row.low ⊥ (λ low. greatest_sum row.terms area <ℤ low)
IsMissed High row area = MatchOption row.high ⊥ (λ high. high <ℤ least_sum row.terms area)

-- the reason names a row, and a box below the given one has each good point of it: the box as then
-- tightened, over which no sum of the row satisfies the side, or which has no point
pub record IsShown (p : Instance) (cutoff : Option ℤ) (area : List Interval) (reason : Reason) :
    Type 0 where
  pub row : Row
  pub named : IsNamed p cutoff reason.row row
  pub inner : List Interval
  pub below : IsBelow inner area
  pub kept : (x : List ℤ) → IsInside area x → IsGood p cutoff x → IsInside inner x
  pub shown : IsMissed reason.side row inner ⊎ IsCrossed inner

-- if nothing is left, the reason shows it
abbrev pub HasReason : Instance → Option ℤ → List Interval → Tight → Type 0
HasReason p cutoff area (Kept _) = Unit {0}
HasReason p cutoff area (Empty reason) = IsShown p cutoff area reason

-- if one point within all bounds is left, it is good
abbrev pub IsSolved : Instance → Option ℤ → Tight → Type 0
IsSolved p cutoff (Kept left) = IsBelow left (root_of p) → IsFixed left → (x : List ℤ)
    → IsInside left x → IsGood p cutoff x
IsSolved p cutoff (Empty _) = Unit {0}

-- the box has an interval for each column of the problem, and a cutoff, if there is one, is not too
-- large
pub record CanTighten (p : Instance) (cutoff : Option ℤ) (area : List Interval) : Type 0 where
  pub width : length area ≡ length p.columns
  pub small : IsSmallCutoff cutoff

-- what bound propagation says: what the rounds leave, a box below the given one with each good
-- point of it, and good itself where it is one point; or nothing, and a reason that shows it
pub record IsTightened (p : Instance) (cutoff : Option ℤ) (area : List Interval) (tight : Tight) :
    Type 0 where
  pub value : tight ≡ rounds p cutoff area
  pub below : IsLeftOf area tight
  pub kept : KeepsGood p cutoff area tight
  pub empty : HasReason p cutoff area tight
  pub fixed : IsSolved p cutoff tight
