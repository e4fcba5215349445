use Rattle.std.proofs.Common.{sym, ◌∙◌}
use Rattle.ug_pool.proofs.Sorts.{least_stays, least_changes}
use Rattle.ug_pool.proofs.plain.least_with.Goals as goal

pub returns-then-is_ahead : goal.returns-then-is_ahead
returns-then-is_ahead c = least_stays c.args.entries.now c.args.k c.args.best c.requires.least (sym c.is_ahead.ensures ∙ c.if-is_ahead.true)

pub returns-else-is_ahead : goal.returns-else-is_ahead
returns-else-is_ahead c = least_changes c.args.entries.now c.args.k c.args.best c.requires.least (sym c.is_ahead.ensures ∙ c.if-is_ahead.false)
