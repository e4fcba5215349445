use Rattle.std.proofs.Common.{rules}
use Rattle.ug_propagate.proofs.Sizes.{product_sized}
use Rattle.ug_propagate.proofs.short_measure.end_product.Goals as goal

pub returns-clause-value : goal.returns-clause-value
returns-clause-value c = search rules

pub returns-clause-side : goal.returns-clause-side
returns-clause-side c = search rules

pub returns-clause-small : goal.returns-clause-small
returns-clause-small c =
    rw (returns-clause-value c) (product_sized c.args.extreme c.args.term.factor c.args.side (returns-clause-side c))
