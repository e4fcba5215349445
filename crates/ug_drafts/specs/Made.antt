-- The columns and rows of the problem, from the drafts with their names.
use Rattle.std.specs.Prelude.{ℕ, ℤ, pos, neg_ℤ, ◌^◌, ◌||◌, ◌&&◌, not, Bool, List, [], ◌∷◌, ◌++◌}
use Rattle.std.specs.Prelude.{map, filter, Option, Some, None, is_none, unwrap_or, if◌then◌else◌}
use Rattle.std.specs.List.{list_any}
use Rattle.std.specs.Option.{option_map}
use Rattle.ug_rows.specs.declared.row.Term.{Term}
use Rattle.ug_rows.specs.declared.row.Objective as target
use Rattle.ug_problem.specs.declared.column.Column.{Column}
use Rattle.ug_problem.specs.declared.column.NamedRow.{NamedRow}
use Rattle.ug_problem.specs.Decimals.{zero_decimal}
use Rattle.ug_drafts.specs.declared.bound.Bound.{Bound}
use Rattle.ug_drafts.specs.declared.bound.Bound.TheVariants.{Finite, Infinite}
use Rattle.ug_drafts.specs.declared.column.ColumnDraft.{ColumnDraft}
use Rattle.ug_drafts.specs.declared.fault.Kind.{Kind}
use Rattle.ug_drafts.specs.declared.fault.Kind.TheVariants as kinds
use Rattle.ug_drafts.specs.declared.fault.MpsFault.{MpsFault}
use Rattle.ug_drafts.specs.declared.made.Made.{Made}
use Rattle.ug_drafts.specs.declared.rows_and_objective.RowsAndObjective.{RowsAndObjective}
use Rattle.ug_drafts.specs.declared.role.Role.{Role}
use Rattle.ug_drafts.specs.declared.row.Factor.{Factor}
use Rattle.ug_drafts.specs.declared.row.RowDraft.{RowDraft}
use Rattle.ug_drafts.specs.declared.scaling.Sides.{Sides}
use Rattle.ug_drafts.specs.Bounds.{is_infinite, bound_or, box_end}
use Rattle.ug_drafts.specs.FirstFaults.{fault_at}
use Rattle.ug_drafts.specs.Roles.{is_objective, is_ignored, is_sided}
use Rattle.ug_drafts.specs.RowNumbers.{Numbers, range_of, scale_of, scaled_term, scaled_terms}
use Rattle.ug_drafts.specs.RowNumbers.{scaled_side, scaled_range, low_side, high_side, is_above}
use Rattle.ug_drafts.specs.RowNumbers.{is_wide, row_of, signed, signed_terms, objective_of}
use Rattle.ug_drafts.specs.RowNumbers.{no_objective}
use Rattle.ug_drafts.specs.Scales.{AreDecimals}

-- ---- columns

-- the bounds of a column: 0 and plus infinity where none was set
abbrev pub low_kept : ColumnDraft → Bound
low_kept c = unwrap_or c.low (Finite (pos 0))

abbrev pub high_kept : ColumnDraft → Bound
high_kept c = unwrap_or c.high Infinite

-- why it is not a column of a problem
abbrev pub column_kind : Option ℕ → ColumnDraft → Option Kind
column_kind boxed c = if not c.integer then Some kinds.Continuous
    else (if is_none boxed && (is_infinite (low_kept c) || is_infinite (high_kept c))
    then Some kinds.Unbounded else None)

-- its fault, with its name
abbrev pub column_fault_kept : Option ℕ → List ℕ × ColumnDraft → Option MpsFault
column_fault_kept boxed p =
    option_map (λ kind. fault_at p.1.line kind (Some p.0)) (column_kind boxed p.1)

-- the column, where an infinite bound is that of the box
abbrev pub made_column : Option ℕ → List ℕ × ColumnDraft → Column
made_column boxed p = record {
  name = p.0;
  low = bound_or (neg_ℤ (box_end boxed)) (low_kept p.1);
  high = bound_or (box_end boxed) (high_kept p.1);
}

-- ---- one row

-- the numbers of a row
abbrev pub numbers_kept : RowDraft → Numbers
numbers_kept r = record {
  terms = r.terms;
  side = unwrap_or r.side zero_decimal;
  range = range_of r.role r.range;
}

abbrev pub HasDecimals : RowDraft → Type 0
HasDecimals r = AreDecimals (numbers_kept r)

-- the number, if it is not above the limit
abbrev pub below : ℕ → ℤ → Option ℤ
below limit z = if is_above limit (Some z) then None else Some z

-- the coefficients times 10^scale, and whether one is above 10^24
abbrev pub terms_scaled : ℕ → List Factor → List Term
terms_scaled scale fs = map (scaled_term scale) fs

abbrev pub are_terms_wide : List Term → Bool
are_terms_wide terms = list_any (λ (t : Term). is_above (10 ^ 24) (Some t.factor)) terms

-- they are terms, if none is too wide
abbrev pub terms_if : ℕ → List Factor → Option (List Term)
terms_if scale fs = if are_terms_wide (terms_scaled scale fs) then None
    else Some (terms_scaled scale fs)

-- a right-hand side, a range or a side is above 10^37
abbrev pub are_wide : Role → ℤ → Option ℤ → Bool
are_wide role side range = is_above (10 ^ 37) (Some side) || (is_above (10 ^ 37) range
    || (is_above (10 ^ 37) (low_side role side range)
    || is_above (10 ^ 37) (high_side role side range)))

-- the right-hand side and the sides of a row
abbrev pub sides_with : Role → ℤ → Option ℤ → Sides
sides_with role side range =
    record { side = side; low = low_side role side range; high = high_side role side range }

-- they are sides of a problem, if they are not too wide
abbrev pub sides_if : Role → ℤ → Option ℤ → Option Sides
sides_if role side range = if are_wide role side range then None
    else Some (sides_with role side range)

-- a row's numbers, scaled
abbrev pub made_of : Role → Numbers → Made
made_of role n = record {
  terms = scaled_terms n;
  sides = sides_with role (scaled_side n) (scaled_range n);
  scale = scale_of n;
}

-- they are made, if they are not too wide
abbrev pub made_if : Role → Numbers → Option Made
made_if role n = if is_wide role n then None else Some (made_of role n)

-- the row of these numbers
abbrev pub row_with : List ℕ → Made → NamedRow
row_with name m = record {
  name = name;
  row = record { terms = m.terms; low = m.sides.low; high = m.sides.high };
}

-- the objective of these numbers
abbrev pub objective_with : Bool → Made → target.Objective
objective_with maximise m = record {
  terms = signed_terms maximise m.terms;
  constant = signed maximise (neg_ℤ m.sides.side);
  maximise = maximise;
  scale = m.scale;
}

-- ---- all rows

-- the fault of a row, with its name
abbrev pub row_fault_kept : List ℕ × RowDraft → Option MpsFault
row_fault_kept p = if not (is_ignored p.1.role) && is_wide p.1.role (numbers_kept p.1)
    then Some (fault_at p.1.line kinds.TooWide (Some p.0)) else None

-- the rows of the problem
abbrev pub made_row : List ℕ × RowDraft → NamedRow
made_row p = row_of p.0 p.1.role (numbers_kept p.1)

abbrev pub is_made : List ℕ × RowDraft → Bool
is_made p = is_sided p.1.role

abbrev pub made_rows : List (List ℕ × RowDraft) → List NamedRow
made_rows ps = map made_row (filter is_made ps)

-- the objective with a row more: that row, if it is one
abbrev pub objective_and : Bool → target.Objective → List ℕ × RowDraft → target.Objective
objective_and maximise old p =
    if is_objective p.1.role then objective_of maximise (numbers_kept p.1) else old

-- the objective of the rows: the last one, or 0 without any
abbrev pub last_objective : Bool → target.Objective → List (List ℕ × RowDraft) → target.Objective
last_objective maximise old [] = old
last_objective maximise old (p ∷ ps) = last_objective maximise (objective_and maximise old p) ps

-- rows and objective
abbrev pub rows_and_objective : Bool → List (List ℕ × RowDraft) → RowsAndObjective
rows_and_objective maximise ps =
    record { rows = made_rows ps; objective = last_objective maximise (no_objective maximise) ps }

-- these, with a row more
abbrev pub and_row : Bool → RowsAndObjective → List ℕ × RowDraft → RowsAndObjective
and_row maximise parts p = record {
  rows = if is_made p then parts.rows ++ made_row p ∷ [] else parts.rows;
  objective = objective_and maximise parts.objective p;
}
