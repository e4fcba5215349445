use Rattle.ug_propagate.proofs.Machine.{changed}
use Rattle.ug_propagate.proofs.measure.change.Goals as goal

pub returns-clause-value : goal.returns-clause-value
returns-clause-value c =
    changed c.args.factor c.times.result c.apart.result c.args.before c.args.after c.ranges.factor c.apart.ensures.small
    c.ranges.before c.ranges.after c.times.ensures.small c.times.ensures.value c.apart.ensures.value
