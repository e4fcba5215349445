-- How many bytes the fields of a record have.
use Rattle.std.proofs.Common.{◌≡◌, ℕ, ℤ, Fits, ◌+◌, ◌*◌, ◌-◌, ◌^◌, ◌<◌, List, ◌++◌, length, None, Some, refl, sym, ◌∙◌, ap, arith}
use Rattle.std.specs.Prelude.{min}
use Rattle.std.specs.Int.{w32}
use Rattle.std.specs.List.{flat_map}
use Rattle.std.proofs.lemmas.List.{length-append}
use Rattle.ug_problem.specs.declared.column.Column.{Column}
use Rattle.ug_problem.specs.declared.column.NamedRow.{NamedRow}
use Rattle.ug_problem.specs.Instances.{Instance}
use Rattle.ug_problem.specs.Limits.{IsProblem}
use Rattle.ug_fields.specs.Spelling.{count_field, bound_field, name_field, optional_field}
use Rattle.ug_fields.proofs.Simple.{count_long, bound_long, number_long}
use Rattle.ug_records.specs.Lengths.{capped}
use Rattle.ug_records.specs.Spelling.{terms_fields, column_fields, row_fields, objective_fields, record_of}
use Rattle.ug_records.proofs.Shorts.{all_terms_long, objective_long, record_short}

abbrev most : ℕ
most = 2 ^ 64 - 1

column_long : (c : Column) → length (column_fields c) ≡ length c.name + 9
column_long c = omega (
  arith,
  length-append (name_field c.name ++ bound_field c.low) (bound_field c.high),
  length-append (name_field c.name) (bound_field c.low),
  bound_long c.low,
  bound_long c.high,
)

row_long : (r : NamedRow) → length (row_fields r) ≡ length r.name + 1
    + length (optional_field r.row.low) + length (optional_field r.row.high)
    + (4 + 20 * length r.row.terms)
row_long r = omega (
  arith,
  length-append (name_field r.name ++ optional_field r.row.low ++ optional_field r.row.high)
      (terms_fields r.row.terms),
  length-append (name_field r.name ++ optional_field r.row.low) (optional_field r.row.high),
  length-append (name_field r.name) (optional_field r.row.low),
  all_terms_long r.row.terms,
)

record_long : (p : Instance) → length (record_of p)
    ≡ 8 + length (flat_map column_fields p.columns) + length (flat_map row_fields p.rows)
    + (22 + 20 * length p.objective.terms)
record_long p = omega (
  arith,
  length-append (count_field (length p.columns) ++ flat_map column_fields p.columns
      ++ count_field (length p.rows) ++ flat_map row_fields p.rows)
      (objective_fields p.objective),
  length-append (count_field (length p.columns) ++ flat_map column_fields p.columns
      ++ count_field (length p.rows)) (flat_map row_fields p.rows),
  length-append (count_field (length p.columns) ++ flat_map column_fields p.columns)
      (count_field (length p.rows)),
  length-append (count_field (length p.columns)) (flat_map column_fields p.columns),
  count_long (length p.columns),
  count_long (length p.rows),
  objective_long p.objective,
)

-- ---- sums that stop at the greatest number

pub plus : (a b m : ℕ) → min (min a m + min b m) m ≡ min (a + b) m
plus a b m = grind arith

pub record_sum : (p : Instance) → length (record_of p)
    ≡ 8 + length (flat_map column_fields p.columns) + length (flat_map row_fields p.rows)
    + (18 + (4 + 20 * length p.objective.terms))
record_sum p = omega (arith, record_long p)

pub one_column : (c : Column) → min (length c.name + 9) most ≡ capped (length (column_fields c))
one_column c = ap capped (sym (column_long c))

pub column_sum : (front : List ℕ) (c : Column)
    → min (capped (length front) + capped (length (column_fields c))) most
    ≡ capped (length (front ++ column_fields c))
column_sum front c =
    plus (length front) (length (column_fields c)) most
    ∙ ap capped (sym (length-append front (column_fields c)))

pub row_sum : (front : List ℕ) (r : NamedRow)
    → min (capped (length front) + capped (length (row_fields r))) most
    ≡ capped (length (front ++ row_fields r))
row_sum front r =
    plus (length front) (length (row_fields r)) most
    ∙ ap capped (sym (length-append front (row_fields r)))

pub one_row : (r : NamedRow)
    → min (min (length r.name + (length (optional_field r.row.low) + length (optional_field r.row.high) + 1))
    most + capped (4 + 20 * length r.row.terms)) most ≡ capped (length (row_fields r))
one_row r = grind (arith, row_long r)

pub no_side : 1 ≡ length (optional_field None)
no_side = refl

pub some_side : (z : ℤ) → 17 ≡ length (optional_field (Some z))
some_side z = omega (arith, number_long z)

-- ---- a problem's record has less than 2^32 bytes

small_capped : (n : ℕ) → n < 2 ^ 32 → capped n ≡ n
small_capped n small = grind (arith, small)

pub capped_record : (p : Instance) (n : ℕ) → IsProblem p → n ≡ capped (length (record_of p))
    → n ≡ length (record_of p)
capped_record p n is same = same ∙ small_capped (length (record_of p)) (record_short p is)

pub record_fits : (p : Instance) (n : ℕ) → IsProblem p → n ≡ capped (length (record_of p))
    → Fits w32 n
record_fits p n is same =
    record { fits = omega (arith, capped_record p n is same, record_short p is) }
