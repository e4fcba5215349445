use Rattle.std.proofs.Common.{arith}
use Rattle.std.proofs.lemmas.Nat.Gcd.{IsGcd-from_zero, IsGcd-from_mod}
use Rattle.ug_surrogate.proofs.rounding.gcd.Goals as goal

pub loop-y-preserved : goal.loop-y-preserved
loop-y-preserved c = record {
  value = λ g h. c.loop-y.invariant.value g (IsGcd-from_mod _ _ g h);
  first = c.loop-y.invariant.second;
  second = omega (arith, c.loop-y.invariant.first);
}

pub returns-clause-value : goal.returns-clause-value
returns-clause-value c = c.loop-y.invariant.value _ (IsGcd-from_zero _ _ (omega arith))
