use Rattle.std.proofs.Common.{◌≡◌, ◌+◌, ◌-◌, ◌≤◌, length}
use Rattle.ug_propagate.specs.Waiting.{WentOn, propagate_first}
use Rattle.ug_propagate.specs.declared.tight.Tight.TheVariants.{Kept}
use Rattle.ug_propagate.proofs.settle.run_round.Given as goal

abbrev pub invariant-loop-r : goal.invariant-loop-r
invariant-loop-r l = record {
  went : WentOn l.problem l.cutoff l.initial.work l.work;
  so_far : propagate_first l.from l.problem l.cutoff (Kept l.initial.work.sums.area) ≡ Kept l.work.sums.area;
  within : l.from ≤ length l.problem.rows + 1;
}

abbrev pub decreases-loop-r : goal.decreases-loop-r
decreases-loop-r l = length l.problem.rows + 1 - l.from
