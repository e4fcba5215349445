use Rattle.std.proofs.Common.{◌-ℤ◌}
use Rattle.std.proofs.lemmas.Int.{to_z-of_z}
use mir.Syntax.{w128}
use Rattle.ug_rows.proofs.Products.{abs_sub}
use Rattle.ug_propagate.proofs.Words.{difference_fits}
use Rattle.ug_propagate.proofs.measure.minus.Goals as goal

pub overflow_sub-result : goal.overflow_sub-result
overflow_sub-result c =
    rw (to_z-of_z w128 c.args.a c.ranges.a, to_z-of_z w128 c.args.b c.ranges.b) (difference_fits c.args.a c.args.b c.requires)

pub returns-clause-value : goal.returns-clause-value
returns-clause-value c =
    rw (to_z-of_z w128 c.args.a c.ranges.a, to_z-of_z w128 c.args.b c.ranges.b)
    (to_z-of_z w128 (c.args.a -ℤ c.args.b) (difference_fits c.args.a c.args.b c.requires))

pub returns-clause-small : goal.returns-clause-small
returns-clause-small c = rw (returns-clause-value c) (abs_sub c.args.a c.args.b)
