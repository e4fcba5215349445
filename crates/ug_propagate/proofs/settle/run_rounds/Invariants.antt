use Rattle.std.proofs.Common.{◌≡◌, ◌-◌}
use Rattle.ug_propagate.specs.Rounds.{rounds_of}
use Rattle.ug_propagate.specs.Waiting.{WentOn}
use Rattle.ug_propagate.specs.declared.tight.Tight.TheVariants.{Kept}
use Rattle.ug_propagate.proofs.settle.run_rounds.Given as goal

abbrev pub invariant-loop-i : goal.invariant-loop-i
invariant-loop-i l = record {
  went : WentOn l.problem l.cutoff l.initial.work l.work;
  so_far : rounds_of (32 - l.i) l.problem l.cutoff (Kept l.work.sums.area) ≡ rounds_of 32 l.problem l.cutoff (Kept l.initial.work.sums.area);
}
