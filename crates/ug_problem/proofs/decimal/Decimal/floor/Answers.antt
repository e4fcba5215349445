use Rattle.std.proofs.Common.{◌≡◌, ◌∙◌, sym, negsuc, pos, ◌<ℤ◌, arith}
use Rattle.std.proofs.lemmas.Int.{ints}
use Rattle.ug_problem.proofs.Bounds.{floor_below}
use Rattle.ug_problem.specs.Fractions.{floor_of}
use Rattle.ug_problem.proofs.decimal.Decimal.floor.Goals as goal

pub returns-else-self-ge0-clause-value : goal.returns-else-self-ge0-clause-value
returns-else-self-ge0-clause-value c =
    let below : c.args.self.power <ℤ pos 0 = omega (arith, ints, c.if-self-ge0.false) in
    let e : floor_of c.args.self ≡ negsuc c.whole-whole.result =
    floor_below c.args.self c.whole-whole.result c.requires.decimal c.if-self.true below c.whole-whole.ensures.value in
    omega (arith, ints) ∙ sym e
