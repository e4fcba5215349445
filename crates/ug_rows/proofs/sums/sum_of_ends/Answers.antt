use Rattle.std.proofs.Common.{arith}
use Rattle.std.proofs.lemmas.Int.{ints}
use Rattle.ug_rows.proofs.EndBounds.{sum_bound, sum_reached}
use Rattle.ug_rows.proofs.sums.sum_of_ends.Goals as goal

pub returns-clause-bound : goal.returns-clause-bound
returns-clause-bound c =
    sum_bound c.args.extreme c.args.terms.now c.args.sides.now _ c.requires (omega (arith, ints, c.add_ends.ensures.sum))

pub returns-clause-reached : goal.returns-clause-reached
returns-clause-reached c =
    sum_reached c.args.extreme c.args.terms.now c.args.sides.now _ c.requires (omega (arith, ints, c.add_ends.ensures.sum))
