use Rattle.std.proofs.Common.{◌≡◌}
use Rattle.ug_top.specs.Scaled.{scaled_gap}
use Rattle.ug_top.proofs.scaled.scaled.Given as goal

abbrev pub invariant-loop : goal.invariant-loop
invariant-loop l = l.scaled ≡ scaled_gap l.gap l.counter
