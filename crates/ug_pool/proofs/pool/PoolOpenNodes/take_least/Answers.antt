use Rattle.std.proofs.Common.{refl, subst, arith}
use Rattle.ug_pool.specs.Pools.{IsInOrder}
use Rattle.ug_pool.proofs.Places.{rest_in_order}
use Rattle.ug_pool.proofs.pool.PoolOpenNodes.take_least.Goals as goal

pub invariant_of-self : goal.invariant_of-self
invariant_of-self c = record {
  in_order = rest_in_order c.in-Some.entry c.take_first.new.entries.items (subst IsInOrder c.in-Some.ensures.some c.self.invariant.in_order);
  has_room = omega (arith, c.in-Some.ensures.len, c.in-Some.ensures.capacity, c.self.invariant.has_room);
}

pub returns-in-Some-clause-taken : goal.returns-in-Some-clause-taken
returns-in-Some-clause-taken c = rw (← c.self.view_is)
    (record { floor = c.in-Some.entry.floor; first = c.in-Some.ensures.some; spare = refl })
