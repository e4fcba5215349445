use Rattle.std.proofs.Common.{◌≡◌, ◌∙◌, sym, pos, suc, ◌<ℤ◌, arith}
use Rattle.std.proofs.lemmas.Int.{ints}
use Rattle.ug_problem.proofs.Bounds.{ceiling_above}
use Rattle.ug_problem.specs.Fractions.{ceiling_of}
use Rattle.ug_problem.proofs.decimal.Decimal.ceiling.Goals as goal

pub returns-else-self-ge0-clause-value : goal.returns-else-self-ge0-clause-value
returns-else-self-ge0-clause-value c =
    let below : c.args.self.power <ℤ pos 0 = omega (arith, ints, c.if-self-ge0.false) in
    let e : ceiling_of c.args.self ≡ pos (suc c.whole-whole.result) =
    ceiling_above c.args.self c.whole-whole.result c.requires.decimal c.if-self.false below c.whole-whole.ensures.value in
    omega (arith, ints) ∙ sym e
