use Rattle.std.proofs.Common.{◌≡◌, ◌+◌, ◌-◌}
use Rattle.ug_rows.specs.declared.row.Term.{Term}
use Rattle.ug_fields.specs.Reading.{many_at}
use Rattle.ug_records.specs.Reading.{term_at, terms_from}
use Rattle.ug_fields.proofs.Loops.{with_front}
use Rattle.ug_records.proofs.lists.terms_from.Given as goal

abbrev pub invariant-loop : goal.invariant-loop
invariant-loop l =
    with_front l.terms (many_at (λ least. term_at l.width least) (λ least (t : Term). t.column + 1)
    (l.count - l.counter) l.least l.rest)
    ≡ terms_from l.width l.count l.bytes
