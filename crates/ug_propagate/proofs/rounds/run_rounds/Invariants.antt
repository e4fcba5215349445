use Rattle.std.proofs.Common.{◌≡◌, ◌-◌}
use Rattle.ug_propagate.specs.Rounds.{rounds_of}
use Rattle.ug_propagate.specs.declared.tight.Tight.TheVariants.{Kept}
use Rattle.ug_propagate.proofs.rounds.run_rounds.Given as goal

abbrev pub invariant-loop-i : goal.invariant-loop-i
invariant-loop-i l = rounds_of (32 - l.i) l.problem l.cutoff (Kept l.area) ≡ rounds_of 32 l.problem l.cutoff (Kept l.fn.area)
