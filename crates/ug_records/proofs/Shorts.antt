-- A problem's record is no longer than its count can say.
use Rattle.std.proofs.Common.{◌≡◌, ℕ, ℤ, ◌+◌, ◌*◌, ◌^◌, ◌<◌, ◌≤◌, Bool, true, false, List, [], ◌∷◌, ◌++◌, length, Option, None, Some, refl, arith, sum_by}
use Rattle.std.specs.List.{All, flat_map}
use Rattle.std.proofs.lemmas.List.{length-append}
use Rattle.std.proofs.lemmas.List.Sums.{sum_by-cons}
use Rattle.ug_rows.specs.declared.row.Term.{Term}
use Rattle.ug_rows.specs.declared.row.Objective.{Objective}
use Rattle.ug_problem.specs.declared.column.Column.{Column}
use Rattle.ug_problem.specs.declared.column.NamedRow.{NamedRow}
use Rattle.ug_problem.specs.Instances.{Instance, IsColumn, IsRow}
use Rattle.ug_problem.specs.Limits.{IsProblem}
use Rattle.ug_fields.specs.Spelling.{count_field, bound_field, number_field, name_field, optional_field}
use Rattle.ug_fields.proofs.Parts.{head_of, tail_of}
use Rattle.ug_fields.proofs.Simple.{count_long, bound_long, number_long}
use Rattle.ug_records.specs.Spelling.{sense_field, term_fields, terms_fields, column_fields, row_fields, objective_fields, record_of}

side_short : (side : Option ℤ) → length (optional_field side) ≤ 17
side_short None = omega arith
side_short (Some z) = omega (arith, number_long z)

terms_long : (terms : List Term) → length (flat_map term_fields terms) ≡ 20 * length terms
terms_long [] = refl
terms_long (t ∷ terms) = omega (
  arith,
  length-append (count_field t.column ++ number_field t.factor) (flat_map term_fields terms),
  length-append (count_field t.column) (number_field t.factor),
  count_long t.column,
  number_long t.factor,
  terms_long terms,
)

pub all_terms_long : (terms : List Term) → length (terms_fields terms) ≡ 4 + 20 * length terms
unfolding terms_fields
all_terms_long terms = omega (
  arith,
  length-append (count_field (length terms)) (flat_map term_fields terms),
  count_long (length terms),
  terms_long terms,
)

pub columns_short : (columns : List Column) → All IsColumn columns
    → length (flat_map column_fields columns) ≤ 264 * length columns
columns_short [] all = omega arith
columns_short (c ∷ columns) all =
    let is = head_of IsColumn c columns all in
    omega (
      arith,
      length-append (name_field c.name ++ bound_field c.low ++ bound_field c.high)
          (flat_map column_fields columns),
      length-append (name_field c.name ++ bound_field c.low) (bound_field c.high),
      length-append (name_field c.name) (bound_field c.low),
      bound_long c.low,
      bound_long c.high,
      is.name.short,
      columns_short columns (tail_of IsColumn c columns all),
    )

abbrev pub in_row : NamedRow → ℕ
in_row row = length row.row.terms

pub rows_short : (width : ℕ) (rows : List NamedRow) → All (IsRow width) rows
    → length (flat_map row_fields rows) ≤ 294 * length rows + 20 * sum_by in_row rows
rows_short width [] all = omega arith
rows_short width (r ∷ rows) all =
    let is = head_of (IsRow width) r rows all in
    omega (
      arith,
      length-append (name_field r.name ++ optional_field r.row.low ++ optional_field r.row.high
          ++ terms_fields r.row.terms) (flat_map row_fields rows),
      length-append (name_field r.name ++ optional_field r.row.low ++ optional_field r.row.high)
          (terms_fields r.row.terms),
      length-append (name_field r.name ++ optional_field r.row.low) (optional_field r.row.high),
      length-append (name_field r.name) (optional_field r.row.low),
      side_short r.row.low,
      side_short r.row.high,
      all_terms_long r.row.terms,
      is.name.short,
      sum_by-cons in_row r rows,
      rows_short width rows (tail_of (IsRow width) r rows all),
    )

sense_long : (m : Bool) → length (sense_field m) ≡ 1
sense_long false = refl
sense_long true = refl

pub objective_long : (o : Objective) → length (objective_fields o) ≡ 22 + 20 * length o.terms
unfolding objective_fields
objective_long o = omega (
  arith,
  length-append (sense_field o.maximise ++ (o.scale ∷ []) ++ number_field o.constant)
      (terms_fields o.terms),
  length-append (sense_field o.maximise ++ (o.scale ∷ [])) (number_field o.constant),
  length-append (sense_field o.maximise) (o.scale ∷ []),
  sense_long o.maximise,
  number_long o.constant,
  all_terms_long o.terms,
)

pub record_short : (p : Instance) → IsProblem p → length (record_of p) < 2 ^ 32
record_short p is = omega (
  arith,
  length-append (count_field (length p.columns) ++ flat_map column_fields p.columns
      ++ count_field (length p.rows) ++ flat_map row_fields p.rows)
      (objective_fields p.objective),
  length-append (count_field (length p.columns) ++ flat_map column_fields p.columns
      ++ count_field (length p.rows)) (flat_map row_fields p.rows),
  length-append (count_field (length p.columns) ++ flat_map column_fields p.columns)
      (count_field (length p.rows)),
  length-append (count_field (length p.columns)) (flat_map column_fields p.columns),
  count_long (length p.columns),
  count_long (length p.rows),
  columns_short p.columns is.formed.columns,
  rows_short (length p.columns) p.rows is.formed.rows,
  objective_long p.objective,
  is.counts.columns,
  is.counts.rows,
  is.counts.terms,
)
