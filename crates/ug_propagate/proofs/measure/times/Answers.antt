use Rattle.std.proofs.Common.{◌∙◌, FitsSigned, rules}
use Rattle.std.proofs.lemmas.Int.{to_z-of_z}
use mir.Syntax.{w64, w128}
use Rattle.ug_propagate.proofs.Machine.{scaled, scaled_fits, scaled_small}
use Rattle.ug_propagate.proofs.measure.times.Goals as goal

pub overflow_mul-result : goal.overflow_mul-result
overflow_mul-result c =
    let fits : FitsSigned w128 c.from.result = search rules in
    rw (
      to_z-of_z w128 c.from.result fits ∙ c.from.ensures ∙ to_z-of_z w64 c.args.width c.ranges.width,
      to_z-of_z w128 c.args.factor c.ranges.factor,
    )
    (scaled_fits c.args.factor c.args.width c.requires.factor c.requires.width)

pub returns-clause-value : goal.returns-clause-value
returns-clause-value c =
    scaled c.args.factor c.args.width c.from.result c.requires.factor c.requires.width c.ranges.factor c.ranges.width c.from.ensures

pub returns-clause-small : goal.returns-clause-small
returns-clause-small c =
    scaled_small c.args.factor c.args.width c.from.result c.requires.factor c.requires.width c.ranges.factor c.ranges.width c.from.ensures
