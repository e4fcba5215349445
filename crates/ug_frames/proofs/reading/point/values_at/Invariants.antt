use Rattle.std.proofs.Common.{◌≡◌, ℤ, ◌-◌}
use Rattle.ug_fields.specs.Reading.{bound_at, many_at}
use Rattle.ug_fields.proofs.Loops.{with_front}
use Rattle.ug_frames.specs.Reading.{values_at}
use Rattle.ug_frames.proofs.reading.point.values_at.Given as goal

abbrev pub invariant-loop : goal.invariant-loop
invariant-loop l =
    with_front l.values (many_at (λ (state : Unit {0}). bound_at)
    (λ state (value : ℤ). state) (l.count - l.counter) tt l.rest)
    ≡ values_at l.count l.bytes
