-- The rest of a record's bytes from one of its lines on, each list before the next one.
use Rattle.std.specs.Prelude.{ℕ, ◌+◌, List, [], ◌∷◌, ◌++◌, length, drop, slice_index_or}
use Rattle.std.specs.List.{flat_map}
use Rattle.ug_rows.specs.declared.row.Objective.{Objective}
use Rattle.ug_problem.specs.declared.column.NamedRow.{NamedRow}
use Rattle.ug_problem.specs.Instances.{Instance, no_row}
use Rattle.ug_fields.specs.Spelling.{count_field, number_field, name_field, optional_field}
use Rattle.ug_records.specs.Spelling.{sense_field, term_fields, column_fields, row_fields}
use Rattle.ug_records.specs.declared.stage.RecordStage.{RecordStage}
use Rattle.ug_records.specs.declared.stage.RecordStage.TheVariants.{Front, Column, Row}
use Rattle.ug_records.specs.declared.stage.RecordStage.TheVariants.{Term as RowTerm, LastTerm}

-- the line before a row's terms
unfoldable pub row_head : NamedRow → List ℕ
row_head r = name_field r.name ++ (optional_field r.row.low ++ (optional_field r.row.high
    ++ count_field (length r.row.terms)))

-- the line before the objective's terms
unfoldable pub objective_head : Objective → List ℕ
objective_head o = sense_field o.maximise ++ ((o.scale ∷ []) ++ (number_field o.constant
    ++ count_field (length o.terms)))

-- from term k of the objective on
unfoldable pub from_last_term : Instance → ℕ → List ℕ
from_last_term p k = flat_map term_fields (drop k p.objective.terms)

-- from the objective on
unfoldable pub from_objective : Instance → List ℕ
from_objective p = objective_head p.objective ++ from_last_term p 0

-- from row j on
unfoldable pub from_row : Instance → ℕ → List ℕ
from_row p j = flat_map row_fields (drop j p.rows) ++ from_objective p

-- from term k of row j on
unfoldable pub from_term : Instance → ℕ → ℕ → List ℕ
from_term p j k = flat_map term_fields (drop k (slice_index_or p.rows j no_row).row.terms)
    ++ from_row p (j + 1)

-- from the count of rows on
unfoldable pub from_rows : Instance → List ℕ
from_rows p = count_field (length p.rows) ++ from_row p 0

-- from column k on
unfoldable pub from_column : Instance → ℕ → List ℕ
from_column p k = flat_map column_fields (drop k p.columns) ++ from_rows p

-- all
unfoldable pub from_front : Instance → List ℕ
from_front p = count_field (length p.columns) ++ from_column p 0

-- from a stage on
abbrev pub rest_at : Instance → RecordStage → List ℕ
rest_at p Front = from_front p
rest_at p (Column k) = from_column p k
rest_at p (Row j) = from_row p j
rest_at p (RowTerm j k) = from_term p j k
rest_at p (LastTerm k) = from_last_term p k
