use Rattle.std.proofs.Common.{arith, ap}
use Rattle.ug_frames.proofs.Lengths.{length_of, length_is}
use Rattle.ug_frames.proofs.writing.orders.fields_length.Goals as goal

pub returns-in-Setup-clause-long : goal.returns-in-Setup-clause-long
returns-in-Setup-clause-long c =
    omega (arith, length_is c.args.order.now, ap length_of c.in-Setup.is, c.len.ensures)

pub returns-in-Work-clause-long : goal.returns-in-Work-clause-long
returns-in-Work-clause-long c = omega (
  arith,
  length_is c.args.order.now,
  ap length_of c.in-Work.is,
  c.optional_length.ensures.long,
  c.changes_length.ensures.long,
)

pub returns-in-Incumbent-clause-long : goal.returns-in-Incumbent-clause-long
returns-in-Incumbent-clause-long c =
    omega (arith, length_is c.args.order.now, ap length_of c.in-Incumbent.is)

pub returns-in-CollectIn-clause-long : goal.returns-in-CollectIn-clause-long
returns-in-CollectIn-clause-long c =
    omega (arith, length_is c.args.order.now, ap length_of c.in-CollectIn.is)

pub returns-in-CollectOut-clause-long : goal.returns-in-CollectOut-clause-long
returns-in-CollectOut-clause-long c =
    omega (arith, length_is c.args.order.now, ap length_of c.in-CollectOut.is)

pub returns-in-Winner-clause-long : goal.returns-in-Winner-clause-long
returns-in-Winner-clause-long c =
    omega (arith, length_is c.args.order.now, ap length_of c.in-Winner.is)

pub returns-in-Stop-clause-long : goal.returns-in-Stop-clause-long
returns-in-Stop-clause-long c =
    omega (arith, length_is c.args.order.now, ap length_of c.in-Stop.is)
