use Rattle.std.proofs.Common.{◌≡◌, ◌-◌, length}
use Rattle.ug_problem.specs.declared.column.NamedRow.{NamedRow}
use Rattle.ug_fields.specs.Reading.{many_at}
use Rattle.ug_records.specs.Reading.{row_at, rows_at}
use Rattle.ug_fields.proofs.Loops.{with_front}
use Rattle.ug_records.proofs.whole.rows_at.Given as goal

abbrev pub invariant-loop : goal.invariant-loop
invariant-loop l =
    with_front l.rows (many_at (row_at l.limits.width)
    (λ room (row : NamedRow). room - length row.row.terms) (l.count - l.counter) l.left l.rest)
    ≡ rows_at l.limits.width l.limits.room l.count l.bytes
