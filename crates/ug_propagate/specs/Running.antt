-- Running sums: the least and the greatest sum of each row and of the objective over a box. The
-- objective, without its constant, is the row behind the last.
use Rattle.std.specs.Prelude.{◌≡◌, ◌≢◌, ℕ, ℤ, pos, negsuc, ◌+◌, ◌-◌, ◌^◌, ◌+ℤ◌, ◌-ℤ◌, ◌*ℤ◌, ◌<◌}
use Rattle.std.specs.Prelude.{◌≤◌, unsigned_abs, List, length, slice_index_or, slice_set, Option}
use Rattle.std.specs.Prelude.{Some, None, Bool, true, false, map}
use Rattle.ug_rows.specs.declared.area.Interval.{Interval}
use Rattle.ug_rows.specs.declared.row.Term.{Term}
use Rattle.ug_rows.specs.Rows.{IsAmong, term_at}
use Rattle.ug_rows.specs.Sums.{least_sum, greatest_sum}
use Rattle.ug_rows.specs.declared.sums.Extreme.{Extreme}
use Rattle.ug_rows.specs.declared.sums.Extreme.TheVariants.{Least, Greatest}
use Rattle.ug_rows.specs.Boxes.{HasSmallEnds}
use Rattle.ug_problem.specs.Instances.{Instance, row_at}
use Rattle.ug_problem.specs.ColumnEntries.{entry_at, term_of, terms_of}
use Rattle.ug_problem.specs.declared.entries.ColumnEntry.{ColumnEntry}
use Rattle.ug_propagate.specs.declared.measure.Moves.{Moves}
use Rattle.ug_propagate.specs.declared.rows.RowSums.{RowSums}
use Rattle.ug_propagate.specs.declared.rows.RowSums.TheVariants.{Short, Wide}
use Rattle.ug_propagate.specs.declared.rows.ShortExtremes.{ShortExtremes}
use Rattle.ug_propagate.specs.declared.sums.Extremes.{Extremes}
use Rattle.ug_propagate.specs.Shorts.{AreShort}
use Rattle.ug_propagate.specs.Steps.{HaveSmallColumns}

-- a box, for each row its sums, and whether these are kept in 64 bits
pub record SumsState : Type 0 where
  pub area : List Interval
  pub sums : List Extremes
  pub short : Bool

-- sums that stand for those of a row that is not there
abbrev pub no_extremes : Extremes
no_extremes = record { least = pos 0; greatest = pos 0 }

-- the sums of row r
abbrev pub extremes_at : List Extremes → ℕ → Extremes
extremes_at sums r = slice_index_or sums r no_extremes

-- the same where they are kept in 64 bits
abbrev pub no_short : ShortExtremes
no_short = record { least = pos 0; greatest = pos 0 }

abbrev pub short_at : List ShortExtremes → ℕ → ShortExtremes
short_at sums r = slice_index_or sums r no_short

-- the sums that are kept in 64 bits
abbrev pub widened : ShortExtremes → Extremes
widened sums = record { least = sums.least; greatest = sums.greatest }

-- the sums of each row, however they are kept
abbrev pub sums_in : RowSums → List Extremes
sums_in (Short sums) = map widened sums.items
sums_in (Wide sums) = sums.items

-- whether they are kept in 64 bits
abbrev pub are_in_64_bits : RowSums → Bool
are_in_64_bits (Short sums) = true
are_in_64_bits (Wide sums) = false

-- these are the sums of the terms over the box
pub record IsSummed (terms : List Term) (area : List Interval) (ends : Extremes) : Type 0 where
  pub small : HaveSmallColumns terms area
  pub least : ends.least ≡ least_sum terms area
  pub greatest : ends.greatest ≡ greatest_sum terms area

-- these are the sums of the problem's rows and of its objective over the box
pub record AreSums (p : Instance) (area : List Interval) (sums : List Extremes) : Type 0 where
  pub width : length area ≡ length p.columns
  pub count : length sums ≡ length p.rows + 1
  pub each : (r : ℕ) → r ≤ length p.rows → IsSummed (terms_of p r) area (extremes_at sums r)

-- these are the sums of the first n rows over the box
pub record AreFirstSums (p : Instance) (area : List Interval) (n : ℕ) (sums : List Extremes) :
    Type 0 where
  pub count : length sums ≡ n
  pub each : (r : ℕ) → r < n → IsSummed (terms_of p r) area (extremes_at sums r)

-- the running sums are those of the problem over their box, and are kept in 64 bits only where they
-- fit whatever the box
pub record IsRunning (p : Instance) (state : SumsState) : Type 0 where
  pub width : length state.area ≡ length p.columns
  pub count : length state.sums ≡ length p.rows + 1
  pub each : (r : ℕ) → r ≤ length p.rows
      → IsSummed (terms_of p r) state.area (extremes_at state.sums r)
  pub short : state.short ≡ true → AreShort p

-- the row is there, or it is the objective
abbrev pub IsNamedRow : Instance → Option ℕ → Type 0
IsNamedRow p None = Unit {0}
IsNamedRow p (Some r) = r < length p.rows

-- the terms of the row, of the objective where there is none
abbrev pub terms_named : Instance → Option ℕ → List Term
terms_named p None = p.objective.terms
terms_named p (Some r) = (row_at p r).terms

-- so far the ends go from one interval to another, which has i32 numbers
pub record AreMoves (before after : Interval) (moves : Moves) : Type 0 where
  pub low : moves.low ≡ after.low -ℤ before.low
  pub high : moves.high ≡ after.high -ℤ before.high
  pub short_low : unsigned_abs moves.low ≤ 2 ^ 32
  pub short_high : unsigned_abs moves.high ≤ 2 ^ 32
  pub small : HasSmallEnds after

-- how far the end goes at which the product with the coefficient is the least, or the greatest
abbrev pub move_of : Extreme → ℤ → Moves → ℤ
move_of Least (pos _) moves = moves.low
move_of Least (negsuc _) moves = moves.high
move_of Greatest (pos _) moves = moves.high
move_of Greatest (negsuc _) moves = moves.low

-- the sums of row r, in which a column has this coefficient, are those after the column's ends went
-- so far
pub record HasMoved (factor : ℤ) (moves : Moves) (r : ℕ) (old new : List Extremes) : Type 0 where
  pub ends : Extremes
  pub put : new ≡ slice_set old r ends
  pub least : ends.least ≡ (extremes_at old r).least +ℤ (factor *ℤ move_of Least factor moves)
  pub greatest : ends.greatest
      ≡ (extremes_at old r).greatest +ℤ (factor *ℤ move_of Greatest factor moves)

-- column j is in the objective so, or is not there
abbrev pub IsObjectiveEntry : Instance → ℕ → Option ColumnEntry → Type 0
IsObjectiveEntry p j None = (k : ℕ) → k < length p.objective.terms
    → (term_at p.objective.terms k).column ≢ j
IsObjectiveEntry p j (Some entry) = IsAmong (term_of j entry) p.objective.terms

-- it is the last of these
pub record IsLastOf (entries : List ColumnEntry) (last : ColumnEntry) : Type 0 where
  pub some : 0 < length entries
  pub is : last ≡ entry_at entries (length entries - 1)
