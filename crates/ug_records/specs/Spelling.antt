-- The record of a problem: its bytes, field by field.
use Rattle.std.specs.Prelude.{ℕ, Bool, true, false, List, [], ◌∷◌, ◌++◌, length}
use Rattle.std.specs.List.{flat_map}
use Rattle.ug_rows.specs.declared.row.Term.{Term}
use Rattle.ug_rows.specs.declared.row.Objective.{Objective}
use Rattle.ug_problem.specs.declared.column.Column.{Column}
use Rattle.ug_problem.specs.declared.column.NamedRow.{NamedRow}
use Rattle.ug_problem.specs.Instances.{Instance}
use Rattle.ug_fields.specs.Spelling.{count_field, bound_field, number_field, name_field}
use Rattle.ug_fields.specs.Spelling.{optional_field}

-- the sense: 0 where the user minimises, 1 where he maximises
abbrev pub sense_field : Bool → List ℕ
sense_field false = 0 ∷ []
sense_field true = 1 ∷ []

-- a term: its column and its coefficient
abbrev pub term_fields : Term → List ℕ
term_fields t = count_field t.column ++ number_field t.factor

-- how many terms there are, and each
unfoldable pub terms_fields : List Term → List ℕ
terms_fields terms = count_field (length terms) ++ flat_map term_fields terms

-- a column: its name and its bounds
abbrev pub column_fields : Column → List ℕ
column_fields c = name_field c.name ++ bound_field c.low ++ bound_field c.high

-- a row: its name, its sides and its terms
abbrev pub row_fields : NamedRow → List ℕ
row_fields r = name_field r.name ++ optional_field r.row.low ++ optional_field r.row.high
    ++ terms_fields r.row.terms

-- the objective: sense, scale, constant and terms
unfoldable pub objective_fields : Objective → List ℕ
objective_fields o = sense_field o.maximise ++ o.scale ∷ [] ++ number_field o.constant
    ++ terms_fields o.terms

-- the record: how many columns there are, and each; rows likewise; the objective
abbrev pub record_of : Instance → List ℕ
record_of p = count_field (length p.columns) ++ flat_map column_fields p.columns
    ++ count_field (length p.rows) ++ flat_map row_fields p.rows ++ objective_fields p.objective
