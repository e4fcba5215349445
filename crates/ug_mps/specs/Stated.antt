-- The problem that the lines state.
use Rattle.std.specs.Prelude.{ℕ, pos, neg_ℤ, ◌==◌, ◌||◌, ◌&&◌, not, Bool, List, [], ◌∷◌, map}
use Rattle.std.specs.Prelude.{filter, Option, Some, None, unwrap_or, if◌then◌else◌}
use Rattle.std.specs.Str.{bytes_eq}
use Rattle.ug_rows.specs.declared.row.Objective as target
use Rattle.ug_problem.specs.declared.column.Column.{Column}
use Rattle.ug_problem.specs.declared.column.NamedRow.{NamedRow}
use Rattle.ug_problem.specs.declared.decimal.Decimal.{Decimal}
use Rattle.ug_problem.specs.Decimals.{zero_decimal}
use Rattle.ug_problem.specs.Instances.{Instance}
use Rattle.ug_drafts.specs.declared.bound.Bound.{Bound}
use Rattle.ug_drafts.specs.declared.bound.Bound.TheVariants.{Infinite, Finite}
use Rattle.ug_drafts.specs.declared.row.Factor.{Factor}
use Rattle.ug_drafts.specs.Roles.{is_sided, is_objective}
use Rattle.ug_drafts.specs.Bounds.{bound_or, box_end}
use Rattle.ug_drafts.specs.RowNumbers.{Numbers, no_objective, objective_of, range_of, row_of}
use Rattle.ug_mps.specs.Entries.{Pair, Entry}
use Rattle.ug_mps.specs.History.{RowNamed, rows_of, ColumnBegun, columns_of, Coefficient}
use Rattle.ug_mps.specs.History.{coefficients, sides_given, ranges_given, low_set, high_set}
use Rattle.ug_mps.specs.History.{is_made_integer, is_maximised}

-- ---- the numbers of a row

-- the coefficients of a row that are not 0, in order
abbrev pub is_term : List ℕ → Coefficient → Bool
is_term name c = bytes_eq name c.row && not (c.number.digits == 0)

abbrev pub terms_of : List Coefficient → List ℕ → List Coefficient
terms_of cs name = filter (is_term name) cs

-- a coefficient without its row
abbrev pub factor_of : Coefficient → Factor
factor_of c = record { column = c.place; number = c.number }

-- the number that the pairs give a row, if they give one
abbrev pub number_given : List Pair → List ℕ → Option Decimal
number_given [] name = None
number_given (p ∷ pairs) name = if bytes_eq name p.row then Some p.number
    else number_given pairs name

abbrev pub numbers_of : List Entry → RowNamed → Numbers
numbers_of h r = record {
  terms = map factor_of (terms_of (coefficients h) r.name);
  side = unwrap_or (number_given (sides_given h) r.name) zero_decimal;
  range = range_of r.role (number_given (ranges_given h) r.name);
}

-- ---- the parts of the problem

-- the rows, in order
abbrev pub stated_row : List Entry → RowNamed → NamedRow
stated_row h r = row_of r.name r.role (numbers_of h r)

abbrev pub stated_rows : List Entry → List NamedRow
stated_rows h = map (stated_row h) (filter (λ (r : RowNamed). is_sided r.role) (rows_of h))

-- the objective: the row that is it, where there is one
abbrev pub objective_in : List Entry → List RowNamed → target.Objective
objective_in h [] = no_objective (is_maximised h)
objective_in h (r ∷ rows) =
    if is_objective r.role then objective_of (is_maximised h) (numbers_of h r)
    else objective_in h rows

-- ---- columns

-- the bounds of a column: 0 and plus infinity where none is set
abbrev pub low_of : List Entry → List ℕ → Bound
low_of h name = unwrap_or (low_set h name) (Finite (pos 0))

abbrev pub high_of : List Entry → List ℕ → Bound
high_of h name = unwrap_or (high_set h name) Infinite

-- the column is integer where it begins, or is made so by a bound
abbrev pub is_integer : List Entry → ColumnBegun → Bool
is_integer h c = c.integer || is_made_integer h c.name

-- a column as it is stated
abbrev pub stated_column : Option ℕ → List Entry → ColumnBegun → Column
stated_column boxed h c = record {
  name = c.name;
  low = bound_or (neg_ℤ (box_end boxed)) (low_of h c.name);
  high = bound_or (box_end boxed) (high_of h c.name);
}

-- the problem that the lines state, where infinite bounds are those of the box, if there is one
abbrev pub stated : Option ℕ → List Entry → Instance
stated boxed h = record {
  columns = map (stated_column boxed h) (columns_of h);
  rows = stated_rows h;
  objective = objective_in h (rows_of h);
}
