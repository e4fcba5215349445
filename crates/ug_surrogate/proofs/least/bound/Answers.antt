use Rattle.std.proofs.Common.{rules}
use Rattle.ug_surrogate.proofs.Exchange.{least_weighted}
use Rattle.ug_surrogate.proofs.least.bound.Goals as goal

pub returns-clause-value : goal.returns-clause-value
returns-clause-value c = (
  c.least_weighted-least.result,
  least_weighted c.args.problem.now c.args.area.now c.args.m.now c.least_weighted-least.result c.check_size.ensures.problem c.requires.multipliers
      c.requires.width c.requires.some (search rules),
  search rules,
)
