-- The lines of the columns from one on.
use Rattle.std.proofs.Common.{◌≡◌, ℕ, ℤ, pos, ◌+◌, ◌<◌, List, ◌++◌, length, get_or, drop, refl, arith}
use Rattle.std.proofs.lemmas.List.{drop_more}
use Rattle.ug_problem.specs.declared.column.Column.{Column}
use Rattle.ug_print.specs.Answers.{value_part, value_lines}

-- the line of column i comes first
pub value_lines_more : (columns : List Column) (values : List ℤ) (i : ℕ) (d : Column)
    → i < length columns → length values ≡ length columns
    → value_lines (drop i columns) (drop i values)
    ≡ value_part (get_or columns i d) (get_or values i (pos 0))
    ++ value_lines (drop (i + 1) columns) (drop (i + 1) values)
value_lines_more columns values i d h e =
    let k : i < length values = omega arith in
    rw (drop_more columns i d h, drop_more values i (pos 0) k) refl
