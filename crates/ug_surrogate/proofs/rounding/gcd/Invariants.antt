use Rattle.std.proofs.Common.{ℕ, ◌≤◌, max}
use Rattle.std.specs.Int.{IsGcd}
use Rattle.ug_surrogate.proofs.rounding.gcd.Given as goal

abbrev pub invariant-loop-y : goal.invariant-loop-y
invariant-loop-y l = record {
  value : (g : ℕ) → IsGcd l.x l.y g → IsGcd l.fn.a l.fn.b g;
  first : l.x ≤ max l.fn.a l.fn.b;
  second : l.y ≤ max l.fn.a l.fn.b;
}

abbrev pub decreases-loop-y : goal.decreases-loop-y
decreases-loop-y l = l.y
