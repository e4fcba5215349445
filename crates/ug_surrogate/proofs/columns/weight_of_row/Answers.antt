use Rattle.std.proofs.Common.{◌+◌, arith}
use Rattle.std.proofs.lemmas.Int.{ints}
use Rattle.ug_surrogate.proofs.Places.{placed_weights}
use Rattle.ug_surrogate.proofs.columns.weight_of_row.Goals as goal

pub returns-clause-value : goal.returns-clause-value
returns-clause-value c =
    let at = c.first_from-at.result in
    let both = placed_weights c.args.row c.args.list.now at (at + 1) (omega arith) c.requires c.first_from-at.ensures in
    omega (arith, ints, both, c.weight_here.ensures.value, c.weight_here-2.ensures.value, c.weight_here.ensures.small, c.weight_here-2.ensures.small)
