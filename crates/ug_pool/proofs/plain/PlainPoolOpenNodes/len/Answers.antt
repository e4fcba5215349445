use Rattle.std.proofs.Common.{arith}
use Rattle.std.proofs.lemmas.Grind.{common_steps}
use Rattle.ug_pool.proofs.Sorts.{length_in_order, is_in_order}
use Rattle.ug_pool.proofs.plain.PlainPoolOpenNodes.len.Goals as goal

pub returns-clause-value : goal.returns-clause-value
returns-clause-value c = rw (← c.self.view_is) (grind (arith, common_steps, length_in_order c.self.inside.entries.items))

pub returns-clause-order : goal.returns-clause-order
returns-clause-order c = rw (← c.self.view_is) (is_in_order c.self.inside.entries.items)
