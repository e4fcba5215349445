use Rattle.std.proofs.Common.{arith}
use Rattle.std.proofs.lemmas.Int.{ints}
use Rattle.ug_branch.proofs.MiddleLemmas.{half_low, half_high}
use Rattle.ug_branch.proofs.choice.middle.Goals as goal

pub returns-clause-low : goal.returns-clause-low
returns-clause-low c = omega (arith, ints, half_low _ _ c.div_euclid.ensures, half_high _ _ c.div_euclid.ensures)

pub returns-clause-high : goal.returns-clause-high
returns-clause-high c = omega (arith, ints, half_low _ _ c.div_euclid.ensures, half_high _ _ c.div_euclid.ensures)
