use Rattle.std.proofs.Common.{arith}
use Rattle.ug_propagate.proofs.Shorts.{short_changed}
use Rattle.ug_propagate.proofs.row64.small_change.Goals as goal

pub returns-clause-value : goal.returns-clause-value
returns-clause-value c =
    short_changed c.args.factor c.small_product.result c.apart.result c.args.before c.args.after c.ranges.factor
    c.apart.ensures.small c.ranges.before c.ranges.after (omega (arith, c.small_product.ensures.small)) c.small_product.ensures.value
    c.apart.ensures.value
