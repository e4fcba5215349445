use Rattle.std.proofs.Common.{◌≡◌}
use Rattle.ug_surrogate.specs.Columns.{least_to}
use Rattle.ug_surrogate.proofs.least.least_weighted.Given as goal

abbrev pub invariant-loop-j : goal.invariant-loop-j
invariant-loop-j l = l.total ≡ least_to l.j l.problem l.m l.area
