use Rattle.std.proofs.Common.{◌-ℤ◌}
use Rattle.std.proofs.lemmas.Int.{to_z-of_z}
use mir.Syntax.{w64}
use Rattle.ug_propagate.proofs.Sizes.{short_difference_fits}
use Rattle.ug_propagate.proofs.short.small_minus.Goals as goal

pub overflow_sub-result : goal.overflow_sub-result
overflow_sub-result c =
    rw (to_z-of_z w64 c.args.a c.ranges.a, to_z-of_z w64 c.args.b c.ranges.b) (short_difference_fits c.args.a c.args.b c.requires)

pub returns : goal.returns
returns c =
    rw (to_z-of_z w64 c.args.a c.ranges.a, to_z-of_z w64 c.args.b c.ranges.b)
    (to_z-of_z w64 (c.args.a -ℤ c.args.b) (short_difference_fits c.args.a c.args.b c.requires))
