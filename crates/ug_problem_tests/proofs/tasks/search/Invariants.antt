use Rattle.ug_base.specs.Points.{measure_of}
use Rattle.ug_problem_tests.proofs.tasks.search.Given as goal

abbrev pub decreases-loop : goal.decreases-loop
decreases-loop l = measure_of l.task.boxes
