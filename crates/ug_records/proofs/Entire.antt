-- A whole record, read as it is spelled.
use Rattle.std.proofs.Common.{◌≡◌, ℕ, ◌-◌, ◌^◌, ◌<◌, ◌≤◌, cond, eqb, List, [], ◌++◌, length, Result, Ok, Err, refl, sym, ◌∙◌, ap, subst, arith}
use Rattle.std.specs.List.{flat_map}
use Rattle.std.proofs.lemmas.List.{append-nil, length-append}
use Rattle.std.proofs.lemmas.Bool.{eqb-true}
use Rattle.ug_problem.specs.declared.column.Column.{Column}
use Rattle.ug_problem.specs.declared.column.NamedRow.{NamedRow}
use Rattle.ug_problem.specs.Instances.{Instance, IsColumn}
use Rattle.ug_fields.specs.Reading.{Reading, ◌>>=◌, count_at}
use Rattle.ug_fields.specs.Readers.{IsBytes, IsReader}
use Rattle.ug_fields.specs.Spelling.{count_field}
use Rattle.ug_fields.proofs.Parts.{nothing, five}
use Rattle.ug_fields.proofs.Tests.{single, single_stops}
use Rattle.ug_fields.proofs.Takes.{first, then_, bind_ok, bind_err, reworded, made, joined}
use Rattle.ug_fields.proofs.Simple.{count_reader}
use Rattle.ug_fields.proofs.Runs.{Chain, after_all, many_reader}
use Rattle.ug_records.specs.Reading.{column_at, columns_at, row_at, rows_at, objective_at, parts_at, record_at}
use Rattle.ug_records.specs.Spelling.{column_fields, row_fields, objective_fields, record_of}
use Rattle.ug_records.proofs.Composed.{column_reader}
use Rattle.ug_records.proofs.Larger.{IsReadRow, IsReadObjective, row_reader, objective_reader}

abbrev pub same : Unit {0} → Column → Unit {0}
same state column = state

abbrev pub less : ℕ → NamedRow → ℕ
less room row = room - length row.row.terms

-- how many terms may still be after the rows
abbrev pub left_by : List NamedRow → ℕ
left_by rows = after_all less (10 ^ 6) rows

abbrev IsCount : ℕ → Type 0
IsCount n = (n ≤ 10 ^ 4) × (n < 2 ^ 32)

abbrev AreColumns : ℕ → List Column × Unit {0} → Type 0
AreColumns n x = (length x.0 ≡ n) × Chain (λ state. IsColumn) same tt x.0
    × (x.1 ≡ after_all same tt x.0)

abbrev AreRows : ℕ → ℕ → List NamedRow × ℕ → Type 0
AreRows width n x = (length x.0 ≡ n) × Chain (IsReadRow width) less (10 ^ 6) x.0
    × (x.1 ≡ after_all less (10 ^ 6) x.0)

abbrev End : ℕ → ℕ → Instance → Type 0
End width room p = IsReadObjective width room p.objective × Unit {0}

abbrev Rows : ℕ → ℕ → Instance → Type 0
Rows width n p = AreRows width n (p.rows, left_by p.rows) × End width (left_by p.rows) p

abbrev Heights : ℕ → Instance → Type 0
Heights width p = IsCount (length p.rows) × Rows width (length p.rows) p

abbrev Columns : ℕ → Instance → Type 0
Columns n p = AreColumns n (p.columns, tt) × Heights n p

-- what a record that is read is the record of
abbrev pub Whole : Instance → Type 0
Whole p = Unit {0} × (IsCount (length p.columns) × Columns (length p.columns) p)

-- a part's value put for the part
moved : {Z X : Type 0} → (part : Z → X) (Before : Z → Type 0) (Good : X → Z → Type 0)
    (fields : Z → List ℕ) (x : X) (read : List ℕ → Reading Z)
    → IsReader (λ z. (Before z × (part z ≡ x)) × Good x z) fields read
    → IsReader (λ z. (Before z × (part z ≡ x)) × Good (part z) z) fields read
moved part Before Good fields x read reader =
    reworded (λ z. (Before z × (part z ≡ x)) × Good x z) fields
    (λ z. (Before z × (part z ≡ x)) × Good (part z) z) fields read
    (λ z good. refl)
    (λ z good. (good.0, subst (λ y. Good y z) (sym good.0.1) good.1))
    (λ z good. (good.0, subst (λ y. Good y z) good.0.1 good.1))
    reader

-- a record from its columns, its rows' count, its rows or its objective on
abbrev from_objective : Instance → List ℕ
from_objective p = objective_fields p.objective ++ []

abbrev from_rows : Instance → List ℕ
from_rows p = flat_map row_fields p.rows ++ from_objective p

abbrev from_height : Instance → List ℕ
from_height p = count_field (length p.rows) ++ from_rows p

abbrev from_columns : Instance → List ℕ
from_columns p = flat_map column_fields p.columns ++ from_height p

pub parts_reader : IsReader Whole record_of parts_at
unfolding parts_at
parts_reader =
    reworded Whole
    (λ (p : Instance). count_field (length p.columns) ++ from_columns p) Whole record_of _
    (λ p good. sym (five (count_field (length p.columns)) (flat_map column_fields p.columns)
    (count_field (length p.rows)) (flat_map row_fields p.rows) (objective_fields p.objective) [])
    ∙ append-nil (record_of p))
    (λ p good. good) (λ p good. good)
    (joined (λ (p : Instance). length p.columns) IsCount count_field (count_at (10 ^ 4))
    (λ p. Unit {0})
    (λ p. Columns (length p.columns) p)
    from_columns _ (count_reader (10 ^ 4))
    (λ width wide. moved (λ (p : Instance). length p.columns) (λ p. Unit {0}) Columns _ width _
    (joined (λ (p : Instance). (p.columns, tt)) (AreColumns width) (λ x. flat_map column_fields x.0)
    (columns_at width)
    (λ p. Unit {0} × (length p.columns ≡ width)) (Heights width)
    from_height _
    (many_reader (λ (state : Unit {0}). column_at) same (λ state. IsColumn) column_fields
    (λ state. column_reader) width tt)
    (λ columns are. joined (λ (p : Instance). length p.rows) IsCount count_field (count_at (10 ^ 4))
    (λ p. (Unit {0} × (length p.columns ≡ width)) × ((p.columns, tt) ≡ columns))
    (λ p. Rows width (length p.rows) p)
    from_rows _ (count_reader (10 ^ 4))
    (λ height high. moved (λ (p : Instance). length p.rows)
    (λ p. (Unit {0} × (length p.columns ≡ width)) × ((p.columns, tt) ≡ columns)) (Rows width) _
    height _
    (joined (λ (p : Instance). (p.rows, left_by p.rows)) (AreRows width height)
    (λ x. flat_map row_fields x.0) (rows_at width (10 ^ 6) height)
    (λ p. ((Unit {0} × (length p.columns ≡ width)) × ((p.columns, tt) ≡ columns))
    × (length p.rows ≡ height))
    (λ p. End width (left_by p.rows) p)
    from_objective _
    (many_reader (row_at width) less (IsReadRow width) row_fields (row_reader width) height
    (10 ^ 6))
    (λ rows list. moved (λ (p : Instance). (p.rows, left_by p.rows))
    (λ p. ((Unit {0} × (length p.columns ≡ width)) × ((p.columns, tt) ≡ columns))
    × (length p.rows ≡ height))
    (λ x. End width x.1) _ rows _
    (joined (λ (p : Instance). p.objective) (IsReadObjective width rows.1) objective_fields
    (objective_at width rows.1)
    (λ p. (((Unit {0} × (length p.columns ≡ width)) × ((p.columns, tt) ≡ columns))
    × (length p.rows ≡ height)) × ((p.rows, left_by p.rows) ≡ rows))
    (λ p. Unit {0}) (λ p. []) _ (objective_reader width rows.1)
    (λ objective is. made
    (λ (p : Instance). ((((((Unit {0} × (length p.columns ≡ width)) × ((p.columns, tt) ≡ columns))
    × (length p.rows ≡ height)) × ((p.rows, left_by p.rows) ≡ rows))) × (p.objective ≡ objective))
    × Unit {0})
    (record { columns = columns.0; rows = rows.0; objective = objective })
    ((((((tt, are.0), refl), list.0), λ i. (rows.0, sym list.2 i)), refl), tt)
    (λ p all. λ i. record {
      columns = (all.0.0.0.0.1 i).0;
      rows = (all.0.0.1 i).0;
      objective =
          all.0.1 i;
    }))))))))))

abbrev ends : Instance × List ℕ → Result Instance ℕ
ends parts = cond (eqb (length parts.1) 0) (Ok parts.0) (Err (length parts.1))

pub record_taken : (bytes : List ℕ) (p : Instance) → IsBytes bytes → record_at bytes ≡ Ok p
    → (bytes ≡ record_of p) × Whole p
unfolding record_at
record_taken bytes p h e =
    let b = bind_ok (parts_at bytes) ends p e in
    let t = parts_reader.taken bytes b.0.0 b.0.1 h b.1 in
    let g = single (eqb (length b.0.1) 0) (length b.0.1) b.0.0 p b.2 in
    let none : b.0.1 ≡ [] = nothing b.0.1 (eqb-true _ _ g.0) in (
      t.0.parts ∙ ap (λ r. record_of b.0.0 ++ r) none ∙ append-nil (record_of b.0.0)
          ∙ ap record_of g.1,
      subst Whole g.1 t.1,
    )

pub record_again : (p : Instance) → Whole p → record_at (record_of p) ≡ Ok p
unfolding record_at
record_again p whole =
    ap (λ r. r >>= ends) (ap parts_at (sym (append-nil (record_of p)))
    ∙ parts_reader.again p [] whole)

pub record_within : (bytes : List ℕ) (left : ℕ) → IsBytes bytes → record_at bytes ≡ Err left
    → left ≤ length bytes
unfolding record_at
record_within bytes left h e =
    elim (bind_err (parts_at bytes) ends left e) [
      | first f ↦ parts_reader.within bytes left h f
      | then_ x r f ↦
          let t = parts_reader.taken bytes x.0 x.1 h r in
          let same = single_stops (eqb (length x.1) 0) (length x.1) left x.0 f in
          omega (arith, same, ap length t.0.parts, length-append (record_of x.0) x.1)
    ]
