-- Rows that are all there: the problem's own with their sides rounded over a box, and behind them a
-- row for each list of multipliers that implies one, as far as the limits of a problem allow.
use Rattle.std.specs.Prelude.{◌≡◌, ℕ, ℤ, pos, negsuc, ◌+ℤ◌, ◌+◌, ◌*◌, ◌^◌, ◌<◌, ◌≤◌, ◌⊎◌, ◌++◌, ◌∷◌, [], List, length, sum_by}
use Rattle.std.specs.Prelude.{Option, Some, None, Bool, true, ◌&&◌, nat_le, if◌then◌else◌, unsigned_abs, slice_index_or}
use Rattle.ug_rows.specs.declared.area.Interval.{Interval}
use Rattle.ug_rows.specs.declared.row.Row.{Row}
use Rattle.ug_rows.specs.Sums.{greatest_sum}
use Rattle.ug_problem.specs.declared.column.NamedRow.{NamedRow}
use Rattle.ug_problem.specs.Instances.{Instance, no_row, root_of, row_at}
use Rattle.ug_surrogate.specs.declared.multipliers.Multipliers.{Multipliers}
use Rattle.ug_surrogate.specs.declared.multipliers.TooBig.{TooBig}
use Rattle.ug_surrogate.specs.declared.rounding.Sides.{Sides}
use Rattle.ug_surrogate.specs.declared.rounding.Narrowed.{Narrowed}
use Rattle.ug_surrogate.specs.declared.rounding.Narrowed.TheVariants.{To, Empty}
use Rattle.ug_surrogate.specs.Implied.{IsImplied, IsWide}
use Rattle.ug_surrogate.specs.Magnitudes.{IsTooBig}
use Rattle.ug_surrogate.specs.Rounding.{IsCommonDivisor, rounded_by}
use Rattle.ug_surrogate.specs.Stronger.{IsPutAt}
use Rattle.ug_surrogate.specs.Weights.{AreMultipliers}

-- a side is at most 10^37, if the row has it
abbrev pub is_within_limit : Option ℤ → Bool
is_within_limit None = true
is_within_limit (Some side) = nat_le (unsigned_abs side) (10 ^ 37)

-- both sides are
abbrev pub are_within_limit : Sides → Bool
are_within_limit sides = is_within_limit sides.low && is_within_limit sides.high

-- the row with these sides
abbrev pub with_sides : Row → Sides → Row
with_sides row sides = record { terms = row.terms; low = sides.low; high = sides.high }

-- a row that no point satisfies
abbrev pub unsatisfiable : Row
unsatisfiable = record { terms = []; low = None; high = Some (negsuc 0) }

-- what rounding makes of a row: the row with the sides that are left, if they are at most 10^37;
-- the row itself, if they are not; a row that no point satisfies, if no sum is left
abbrev pub row_left : Row → Narrowed → Row
row_left row (To sides) = if are_within_limit sides then with_sides row sides else row
row_left row Empty = unsatisfiable

-- new is what rounding over the box makes of old
pub record IsTightened (area : List Interval) (old new : Row) : Type 0 where
  pub divisor : ℕ
  pub common : IsCommonDivisor old.terms area divisor
  pub row : new ≡ row_left old (rounded_by divisor old area)

-- row r of the rows has the name of row r of the problem, and is what rounding makes of it
pub record HasTightened (p : Instance) (area : List Interval) (rows : List NamedRow) (r : ℕ)
    : Type 0 where
  pub name : (slice_index_or rows r no_row).name ≡ (slice_index_or p.rows r no_row).name
  pub row : IsTightened area (row_at p r) (slice_index_or rows r no_row).row

-- the rows are the problem's own, each rounded over the box
pub record AreTightened (p : Instance) (area : List Interval) (rows : List NamedRow) : Type 0 where
  pub count : length rows ≡ length p.rows
  pub each : (r : ℕ) → r < length p.rows → HasTightened p area rows r

-- row r of the rows is now what rounding makes of row r of the problem, and the others are as
-- before
pub record IsTightenedAt (p : Instance) (area : List Interval) (r : ℕ) (old new : List NamedRow)
    : Type 0 where
  pub row : Row
  pub tightened : IsTightened area (row_at p r) row
  pub put : IsPutAt r row old new

-- rounding leaves row r of the problem as it is, and all rows are as before
pub record IsLeftAt (p : Instance) (area : List Interval) (r : ℕ) (old new : List NamedRow)
    : Type 0 where
  pub tightened : IsTightened area (row_at p r) (row_at p r)
  pub same : new ≡ old

-- the multipliers are the problem's, and imply this row under the cutoff
pub record IsRowOf (p : Instance) (m : Multipliers) (cutoff : ℤ) (row : Row) : Type 0 where
  pub multipliers : AreMultipliers p m
  pub implied : IsImplied p m cutoff row

-- the weighted sum may pass 10^38 over the box of all bounds
pub record HasTooBig (p : Instance) (m : Multipliers) : Type 0 where
  pub place : TooBig
  pub passed : IsTooBig p m (root_of p) place

-- the multipliers are not the problem's, or the weighted sum may pass 10^38, or a coefficient of
-- the row or its side is above its limit
abbrev pub HasNoRow : Instance → Multipliers → ℤ → Type 0
HasNoRow p m cutoff = (¬ AreMultipliers p m) ⊎ (HasTooBig p m ⊎ IsWide p m cutoff)

-- the number of terms of the rows
abbrev pub term_count : List NamedRow → ℕ
term_count rows = sum_by (λ (named : NamedRow). length named.row.terms) rows

-- with the row there are at most 10,000 rows, and 1,000,000 terms in all, the objective's among
-- them
pub record IsRoom (p : Instance) (rows : List NamedRow) (row : Row) : Type 0 where
  pub count : length rows < 10 ^ 4
  pub terms : (length p.objective.terms + length row.terms) + term_count rows ≤ 10 ^ 6

-- the multipliers imply a row for which there is no room behind these
pub record HasNoRoom (p : Instance) (m : Multipliers) (cutoff : ℤ) (rows : List NamedRow)
    : Type 0 where
  pub row : Row
  pub implied : IsRowOf p m cutoff row
  pub full : ¬ IsRoom p rows row

-- the new rows are the old ones and behind them, where there is room, a row that the multipliers
-- imply
pub record IsAdded (p : Instance) (m : Multipliers) (cutoff : ℤ) (old new : List NamedRow)
    : Type 0 where
  pub named : NamedRow
  pub put : new ≡ old ++ named ∷ []
  pub implied : IsRowOf p m cutoff named.row
  pub room : IsRoom p old named.row

-- the new rows are the old ones, because the multipliers imply no row, or one without room
pub record IsLeftOut (p : Instance) (m : Multipliers) (cutoff : ℤ) (old new : List NamedRow)
    : Type 0 where
  pub same : new ≡ old
  pub cause : HasNoRow p m cutoff ⊎ HasNoRoom p m cutoff old

-- the row of the multipliers is behind the old ones, or is omitted for one of these causes
abbrev pub IsWithRowOf : Instance → Multipliers → ℤ → List NamedRow → List NamedRow → Type 0
IsWithRowOf p m cutoff old new = IsAdded p m cutoff old new ⊎ IsLeftOut p m cutoff old new

-- the rows of all lists are behind the old ones, in the order of the lists: that of the first list,
-- and behind it those of the others
abbrev pub IsWithRowsOf : Instance → List Multipliers → ℤ → List NamedRow → List NamedRow → Type 0
IsWithRowsOf p [] cutoff old new = new ≡ old
IsWithRowsOf p (m ∷ lists) cutoff old new = (next : List NamedRow)
    × IsWithRowOf p m cutoff old next × IsWithRowsOf p lists cutoff next new

-- the cutoff under which rows are implied: if there is none, one more than the greatest value in
-- the box
abbrev pub cutoff_for : Instance → List Interval → Option ℤ → ℤ
cutoff_for p area (Some cutoff) = cutoff
cutoff_for p area None = (greatest_sum p.objective.terms area +ℤ p.objective.constant) +ℤ pos 1

-- that cutoff is above 2 * 10^37
abbrev pub HasNoCutoff : Instance → List Interval → Option ℤ → Type 0
HasNoCutoff p area cutoff = 2 * 10 ^ 37 < unsigned_abs (cutoff_for p area cutoff)

-- the rows are the problem's own, each rounded over the box, and behind them those of the lists
pub record IsComplete (p : Instance) (area : List Interval) (cutoff : Option ℤ)
    (lists : List Multipliers) (rows : List NamedRow) : Type 0 where
  pub own : List NamedRow
  pub tightened : AreTightened p area own
  pub behind : IsWithRowsOf p lists (cutoff_for p area cutoff) own rows
