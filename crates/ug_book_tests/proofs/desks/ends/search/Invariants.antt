use Rattle.std.proofs.Common.{◌≡◌}
use Rattle.ug_base.specs.Points.{measure_of}
use Rattle.ug_book_tests.proofs.desks.ends.search.Given as goal

abbrev pub invariant-loop : goal.invariant-loop
invariant-loop l = l.task.problem ≡ l.initial.task.problem

abbrev pub decreases-loop : goal.decreases-loop
decreases-loop l = measure_of l.task.boxes
