use Rattle.ug_propagate.proofs.Shorts.{short_changed}
use Rattle.ug_propagate.proofs.measure.short_change.Goals as goal

pub returns-clause-value : goal.returns-clause-value
returns-clause-value c =
    short_changed c.args.factor c.short_times.result c.apart.result c.args.before c.args.after c.ranges.factor
    c.apart.ensures.small c.ranges.before c.ranges.after c.short_times.ensures.small c.short_times.ensures.value
    c.apart.ensures.value
