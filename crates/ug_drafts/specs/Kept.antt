-- The draft of a column and of a row.
use Rattle.std.specs.Prelude.{ℕ, ◌==◌, ◌||◌, Bool, true, false, List, [], ◌∷◌, ◌++◌, Option, Some}
use Rattle.std.specs.Prelude.{None, if◌then◌else◌}
use Rattle.ug_problem.specs.declared.decimal.Decimal.{Decimal}
use Rattle.ug_drafts.specs.declared.bound.BoundChange.{BoundChange}
use Rattle.ug_drafts.specs.declared.column.ColumnDraft.{ColumnDraft}
use Rattle.ug_drafts.specs.declared.row.Factor.{Factor}
use Rattle.ug_drafts.specs.declared.row.RowPart.{RowPart}
use Rattle.ug_drafts.specs.declared.row.RowPart.TheVariants as parts
use Rattle.ug_drafts.specs.declared.row.RowDraft.{RowDraft}
use Rattle.ug_drafts.specs.Bounds.{low_after, high_after}

-- the column with a change
abbrev pub with_change : BoundChange → ColumnDraft → ColumnDraft
with_change change c = record {
  line = c.line;
  integer = c.integer || change.integer;
  low = low_after change c.low;
  high = high_after change c.high;
}

-- the terms with one more coefficient, if it is not 0
abbrev pub with_factor : ℕ → Decimal → List Factor → List Factor
with_factor j d terms = if d.digits == 0 then terms
    else terms ++ record { column = j; number = d } ∷ []

-- the row with a part more
abbrev pub with_part : RowPart → Decimal → RowDraft → RowDraft
with_part (parts.Coefficient j) d r =
    record {
      line = r.line;
      role = r.role;
      terms = with_factor j d r.terms;
      side = r.side;
      range = r.range;
      last = Some j;
    }
with_part parts.Side d r =
    record {
      line = r.line;
      role = r.role;
      terms = r.terms;
      side = Some d;
      range = r.range;
      last = r.last;
    }
with_part parts.Range d r =
    record {
      line = r.line;
      role = r.role;
      terms = r.terms;
      side = r.side;
      range = Some d;
      last = r.last;
    }

-- the place is this one
abbrev pub is_place : Option ℕ → ℕ → Bool
is_place None j = false
is_place (Some i) j = i == j

-- there is a number
abbrev pub is_given : Option Decimal → Bool
is_given None = false
is_given (Some d) = true

-- the row has the part
abbrev pub has_part : RowPart → RowDraft → Bool
has_part (parts.Coefficient j) r = is_place r.last j
has_part parts.Side r = is_given r.side
has_part parts.Range r = is_given r.range
