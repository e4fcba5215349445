use Rattle.std.proofs.Common.{◌+ℤ◌}
use Rattle.std.proofs.lemmas.Int.{to_z-of_z}
use mir.Syntax.{w64}
use Rattle.ug_propagate.proofs.Sizes.{short_sum_fits}
use Rattle.ug_propagate.proofs.short.small_plus.Goals as goal

pub overflow_add-result : goal.overflow_add-result
overflow_add-result c =
    rw (to_z-of_z w64 c.args.a c.ranges.a, to_z-of_z w64 c.args.b c.ranges.b) (short_sum_fits c.args.a c.args.b c.requires)

pub returns : goal.returns
returns c =
    rw (to_z-of_z w64 c.args.a c.ranges.a, to_z-of_z w64 c.args.b c.ranges.b)
    (to_z-of_z w64 (c.args.a +ℤ c.args.b) (short_sum_fits c.args.a c.args.b c.requires))
