-- Values that are the same part by part are the same.
use Rattle.std.proofs.Common.{◌≡◌, ◌∙◌, ℤ, List, ℕ, ap}
use Rattle.ug_rows.specs.declared.row.Row.{Row}
use Rattle.ug_problem.specs.declared.column.Column.{Column}
use Rattle.ug_problem.specs.declared.column.NamedRow.{NamedRow}

pub same_row : (x y : NamedRow) → y.name ≡ x.name → y.row ≡ x.row → y ≡ x
same_row x y name row =
    ap (λ (n : List ℕ). record { name = n; row = y.row }) name ∙ ap (λ (r : Row). record { name = x.name; row = r }) row

pub same_column : (x y : Column) → y.name ≡ x.name → y.low ≡ x.low → y.high ≡ x.high → y ≡ x
same_column x y name low high =
    ap (λ (n : List ℕ). record { name = n; low = y.low; high = y.high }) name
    ∙ (ap (λ (l : ℤ). record { name = x.name; low = l; high = y.high }) low
    ∙ ap (λ (h : ℤ). record { name = x.name; low = x.low; high = h }) high)
