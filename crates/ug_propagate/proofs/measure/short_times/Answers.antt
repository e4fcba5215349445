use Rattle.std.proofs.lemmas.Int.{to_z-of_z}
use mir.Syntax.{w64}
use Rattle.ug_propagate.proofs.Shorts.{short_fits_in, short_scaled, short_scaled_small}
use Rattle.ug_propagate.proofs.measure.short_times.Goals as goal

pub overflow_mul-result : goal.overflow_mul-result
overflow_mul-result c =
    rw (to_z-of_z w64 c.args.factor c.ranges.factor, to_z-of_z w64 c.args.width c.ranges.width)
    (short_fits_in c.args.factor c.args.width c.requires.factor c.requires.width)

pub returns-clause-value : goal.returns-clause-value
returns-clause-value c =
    short_scaled c.args.factor c.args.width c.requires.factor c.requires.width c.ranges.factor c.ranges.width

pub returns-clause-small : goal.returns-clause-small
returns-clause-small c =
    short_scaled_small c.args.factor c.args.width c.requires.factor c.requires.width c.ranges.factor c.ranges.width
