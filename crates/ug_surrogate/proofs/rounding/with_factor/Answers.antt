use Rattle.std.proofs.Common.{ℕ, ap, subst, unsigned_abs, ◌∙◌}
use Rattle.std.proofs.lemmas.Int.{to_z-of_z}
use Rattle.std.specs.Int.{IsGcd}
use mir.Syntax.{w128}
use Rattle.ug_surrogate.proofs.rounding.with_factor.Goals as goal

pub returns-clause-value : goal.returns-clause-value
returns-clause-value c =
    let same = c.unsigned_abs.ensures.value ∙ ap unsigned_abs (to_z-of_z w128 c.args.factor c.ranges.factor) in
    subst (λ (n : ℕ). IsGcd c.args.divisor n c.gcd.result) same c.gcd.ensures.value
