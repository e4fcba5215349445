use Rattle.std.proofs.Common.{◌≡◌}
use Rattle.ug_base.specs.Points.{measure_of}
use Rattle.ug_book_tests.proofs.desks.saved.give_all.Given as goal

abbrev pub invariant-loop-handed : goal.invariant-loop-handed
invariant-loop-handed g l =
    (l.pass.lock ≡ l.initial.pass.lock) × (l.pass.opening ≡ l.initial.pass.opening)
    × (l.task.problem ≡ l.initial.task.problem)

abbrev pub decreases-loop-handed : goal.decreases-loop-handed
decreases-loop-handed g l = measure_of l.task.boxes
