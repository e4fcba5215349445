-- What the functions for one row, one term and one column are given, what they answer, and what
-- they keep up.
use Rattle.std.specs.Prelude.{◌≡◌, ◌≢◌, ℕ, ℤ, pos, ◌<◌, ◌≤◌, ◌*◌, ◌^◌, ◌-ℤ◌, ◌≤ℤ◌, neg_ℤ, List}
use Rattle.std.specs.Prelude.{length, Option, Some, None, IfSome, unsigned_abs}
use Rattle.ug_rows.specs.declared.area.Interval.{Interval}
use Rattle.ug_rows.specs.declared.row.Term.{Term}
use Rattle.ug_rows.specs.declared.row.Row.{Row}
use Rattle.ug_rows.specs.declared.sums.Extreme.TheVariants.{Least, Greatest}
use Rattle.ug_rows.specs.Boxes.{HasSmallEnds, interval_at}
use Rattle.ug_rows.specs.Rows.{IsLinear, term_at}
use Rattle.ug_rows.specs.Sums.{end_product, least_sum, greatest_sum}
use Rattle.ug_propagate.specs.declared.row_sides.RowSides.{RowSides}
use Rattle.ug_propagate.specs.declared.row_sides.Propagated.{Propagated}
use Rattle.ug_propagate.specs.declared.row_sides.Propagated.TheVariants.{Same, Changed, Emptied}
use Rattle.ug_propagate.specs.declared.measure.Ends.{Ends}
use Rattle.ug_propagate.specs.declared.measure.Slack.{Slack}
use Rattle.ug_propagate.specs.declared.tight.Tight.{Tight}
use Rattle.ug_propagate.specs.declared.tight.Tight.TheVariants.{Kept, Empty}
use Rattle.ug_propagate.specs.declared.tight.Reason.{Reason}

-- what a step answers: the box that is left, or the reason why nothing is
abbrev pub outcome_of : Option Reason → List Interval → Tight
outcome_of None area = Kept area
outcome_of (Some reason) area = Empty reason

-- what the propagation of a row answers, over the box that it leaves
abbrev pub propagated_of : Propagated → List Interval → Tight
propagated_of Same area = Kept area
propagated_of Changed area = Kept area
propagated_of (Emptied reason) area = Empty reason

-- a propagation that reports no change made none
abbrev pub IsStill : Propagated → List Interval → List Interval → Type 0
IsStill Same old new = new ≡ old
IsStill Changed old new = Unit {0}
IsStill (Emptied reason) old new = Unit {0}

-- something is left
abbrev pub IsGoing : Propagated → Type 0
IsGoing Same = Unit {0}
IsGoing Changed = Unit {0}
IsGoing (Emptied reason) = ⊥

-- the row with these terms and these sides
abbrev pub row_of : RowSides → List Term → Row
row_of row_sides terms = record { terms = terms; low = row_sides.low; high = row_sides.high }

-- a term over `width` columns: its coefficient is not 0 and not above 10^24
pub record IsTermOf (width : ℕ) (t : Term) : Type 0 where
  pub there : t.column < width
  pub small : unsigned_abs t.factor ≤ 10 ^ 24
  pub nonzero : t.factor ≢ pos 0

-- terms over `width` columns with coefficients that are not 0, and sides of at most 4 * 10^37
pub record IsPropagable (width : ℕ) (row_sides : RowSides) (terms : List Term) : Type 0 where
  pub linear : IsLinear width terms
  pub nonzero : (k : ℕ) → k < length terms → (term_at terms k).factor ≢ pos 0
  pub low : IfSome row_sides.low (λ low. unsigned_abs low ≤ 4 * 10 ^ 37)
  pub high : IfSome row_sides.high (λ high. unsigned_abs high ≤ 4 * 10 ^ 37)

-- how far the product of a term goes over the box: the greatest less the least
abbrev pub span_of : Term → List Interval → ℤ
span_of t area = end_product Greatest t area -ℤ end_product Least t area

-- the columns of the terms have i32 numbers
abbrev pub HaveSmallColumns : List Term → List Interval → Type 0
HaveSmallColumns terms area = (k : ℕ) → k < length terms
    → HasSmallEnds (interval_at area (term_at terms k).column)

-- the sums of the terms over the box, and a number that no span of a term is above
pub record IsMeasured (terms : List Term) (area : List Interval) (ends : Ends) : Type 0 where
  pub small : HaveSmallColumns terms area
  pub least : ends.least ≡ least_sum terms area
  pub greatest : ends.greatest ≡ greatest_sum terms area
  pub widest : (k : ℕ) → k < length terms → span_of (term_at terms k) area ≤ℤ ends.widest

-- the side, or a number that no sum reaches where there is none
abbrev pub high_of : Option ℤ → ℤ
high_of None = pos (6 * 10 ^ 37)
high_of (Some high) = high

abbrev pub low_of : Option ℤ → ℤ
low_of None = neg_ℤ (pos (6 * 10 ^ 37))
low_of (Some low) = low

-- how far the least sum over the box is below the high side, and the greatest above the low side
pub record IsSlackOf (row_sides : RowSides) (terms : List Term) (area : List Interval) (slack : Slack) :
    Type 0 where
  pub small : HaveSmallColumns terms area
  pub high : slack.high ≡ high_of row_sides.high -ℤ least_sum terms area
  pub low : slack.low ≡ greatest_sum terms area -ℤ low_of row_sides.low
  pub high_size : unsigned_abs slack.high ≤ 9 * 10 ^ 37
  pub low_size : unsigned_abs slack.low ≤ 9 * 10 ^ 37

-- the slack of both sides
abbrev pub slack_over : RowSides → List Term → List Interval → Slack
slack_over row_sides terms area = record {
  high = high_of row_sides.high -ℤ least_sum terms area;
  low = greatest_sum terms area -ℤ low_of row_sides.low;
}
