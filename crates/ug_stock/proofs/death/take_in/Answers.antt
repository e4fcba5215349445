use Rattle.std.proofs.Common.{ap, length, List, arith}
use Rattle.ug_pool.specs.declared.entry.Entry.{Entry}
use Rattle.ug_stock.proofs.Rooms.{no_more}
use Rattle.ug_stock.proofs.death.take_in.Goals as goal

pub put-requires : goal.put-requires
put-requires c = omega (
  arith,
  c.requires.pool,
  c.drop_below.ensures.spare,
  ap (λ (es : List Entry). length es) c.drop_below.ensures.entries,
  no_more c.args.node.line c.args.pool.now.entries,
)

pub returns-clause-places : goal.returns-clause-places
returns-clause-places c = (
  omega (
    arith,
    c.put.ensures.spare,
    c.drop_below.ensures.spare,
    ap (λ (es : List Entry). length es) c.drop_below.ensures.entries,
    no_more c.args.node.line c.args.pool.now.entries,
  ),
  c.call_off.ensures.spare,
)
