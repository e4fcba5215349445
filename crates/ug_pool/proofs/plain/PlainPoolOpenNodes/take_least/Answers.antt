use Rattle.std.proofs.Common.{refl}
use Rattle.ug_pool.proofs.Sorts.{is_in_order}
use Rattle.ug_pool.proofs.plain.PlainPoolOpenNodes.take_least.Goals as goal

pub returns-clause-taken : goal.returns-clause-taken
returns-clause-taken c = rw (← c.self.view_is)
    (record { floor = c.take_out-entry.result.floor; first = c.take_out-entry.ensures.first; spare = refl })

pub returns-clause-order : goal.returns-clause-order
returns-clause-order c = rw (← c.self.view_is) (is_in_order c.self.inside.entries.items)

pub returns-then-is_empty-clause-order : goal.returns-then-is_empty-clause-order
returns-then-is_empty-clause-order c = rw (← c.self.view_is) (is_in_order c.self.inside.entries.items)
