use Rattle.std.proofs.Common.{◌≡◌, ◌-◌, ◌+◌}
use Rattle.ug_nodes.specs.declared.change.Change.{Change}
use Rattle.ug_fields.specs.Reading.{many_at}
use Rattle.ug_fields.proofs.Loops.{with_front}
use Rattle.ug_frames.specs.Reading.{change_at, changes_from}
use Rattle.ug_frames.proofs.reading.changes.changes_from.Given as goal

abbrev pub invariant-loop : goal.invariant-loop
invariant-loop l =
    with_front l.changes (many_at change_at (λ least (c : Change). c.column + 1)
    (l.count - l.counter) l.least l.rest)
    ≡ changes_from l.count l.bytes
