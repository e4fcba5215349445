use Rattle.std.proofs.Common.{◌≤◌, ◌^◌}
use Rattle.ug_surrogate.specs.Rounding.{IsDivisorOf}
use Rattle.ug_surrogate.proofs.rounding.common_divisor.Given as goal

abbrev pub invariant-loop-k : goal.invariant-loop-k
invariant-loop-k l = record {
  value : IsDivisorOf l.terms l.area l.k l.divisor;
  small : l.divisor ≤ 10 ^ 24;
}
