use Rattle.std.proofs.Common.{◌≡◌, ◌-◌}
use Rattle.ug_problem.specs.declared.column.Column.{Column}
use Rattle.ug_fields.specs.Reading.{many_at}
use Rattle.ug_records.specs.Reading.{column_at}
use Rattle.ug_fields.proofs.Loops.{with_front}
use Rattle.ug_records.proofs.lists.columns_at.Given as goal

abbrev pub invariant-loop : goal.invariant-loop
invariant-loop l =
    with_front l.columns (many_at (λ (state : Unit {0}). column_at)
    (λ state (column : Column). state) (l.count - l.counter) tt l.rest)
    ≡ many_at (λ (state : Unit {0}). column_at) (λ state (column : Column). state) l.count tt
    l.bytes
