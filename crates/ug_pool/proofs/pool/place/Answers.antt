use Rattle.std.proofs.Common.{sym, ◌∙◌, subst}
use Rattle.ug_pool.specs.Pools.{IsInOrder}
use Rattle.ug_pool.proofs.Places.{insert_with_entry, insert_in_order}
use Rattle.ug_pool.proofs.pool.place.Goals as goal

pub returns-clause-items : goal.returns-clause-items
returns-clause-items c =
    c.insert.ensures.items ∙ insert_with_entry c.args.entry c.args.entries.now.items c.place_of-at.result c.place_of-at.ensures

pub returns-clause-order : goal.returns-clause-order
returns-clause-order c =
    subst IsInOrder (sym c.insert.ensures.items)
    (insert_in_order c.args.entry c.args.entries.now.items c.place_of-at.result c.requires.order c.place_of-at.ensures)
