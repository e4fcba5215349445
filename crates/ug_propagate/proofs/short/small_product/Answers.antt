use Rattle.std.proofs.Common.{arith}
use Rattle.std.proofs.lemmas.Int.{to_z-of_z}
use mir.Syntax.{w64}
use Rattle.ug_propagate.proofs.Shorts.{short_fits_in, short_scaled}
use Rattle.ug_propagate.proofs.Sizes.{abs_moved}
use Rattle.ug_propagate.proofs.short.small_product.Goals as goal

pub overflow_mul-result : goal.overflow_mul-result
overflow_mul-result c =
    rw (to_z-of_z w64 c.args.factor c.ranges.factor, to_z-of_z w64 c.args.by c.ranges.by)
    (short_fits_in c.args.factor c.args.by (omega (arith, c.requires.factor)) c.requires.by)

pub returns-clause-value : goal.returns-clause-value
returns-clause-value c =
    short_scaled c.args.factor c.args.by (omega (arith, c.requires.factor)) c.requires.by c.ranges.factor c.ranges.by

pub returns-clause-small : goal.returns-clause-small
returns-clause-small c = rw (returns-clause-value c) (abs_moved c.args.factor c.args.by c.requires.factor c.requires.by)
