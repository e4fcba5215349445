use Rattle.std.proofs.Common.{arith, ap, subst}
use Rattle.ug_frames.specs.Orders.{AreOrderFields}
use Rattle.ug_frames.proofs.Lengths.{length_of, length_is, changes_long, few}
use Rattle.ug_frames.proofs.writing.orders.put_fields.Goals as goal

pub put_number-requires : goal.put_number-requires
put_number-requires c = omega (
  arith,
  c.requires.room,
  length_is c.args.order.now,
  ap length_of c.in-Setup.is,
)

pub put_ticket-requires : goal.put_ticket-requires
put_ticket-requires c = omega (
  arith,
  c.requires.room,
  length_is c.args.order.now,
  ap length_of c.in-Work.is,
)

pub put_changes-requires-clause-few : goal.put_changes-requires-clause-few
put_changes-requires-clause-few c =
    few c.in-Work.changes (subst AreOrderFields c.in-Work.is c.requires.order.fields).1

pub put_changes-requires-clause-room : goal.put_changes-requires-clause-room
put_changes-requires-clause-room c = omega (
  arith,
  c.requires.room,
  length_is c.args.order.now,
  ap length_of c.in-Work.is,
  changes_long c.in-Work.changes,
)

pub put_number-requires-in-Incumbent : goal.put_number-requires-in-Incumbent
put_number-requires-in-Incumbent c = omega (
  arith,
  c.requires.room,
  length_is c.args.order.now,
  ap length_of c.in-Incumbent.is,
)

pub put_ticket-requires-in-CollectIn : goal.put_ticket-requires-in-CollectIn
put_ticket-requires-in-CollectIn c = omega (
  arith,
  c.requires.room,
  length_is c.args.order.now,
  ap length_of c.in-CollectIn.is,
)

pub put_count-requires : goal.put_count-requires
put_count-requires c = omega (
  arith,
  c.requires.room,
  length_is c.args.order.now,
  ap length_of c.in-CollectIn.is,
)

pub put_ticket-requires-in-CollectOut : goal.put_ticket-requires-in-CollectOut
put_ticket-requires-in-CollectOut c = omega (
  arith,
  c.requires.room,
  length_is c.args.order.now,
  ap length_of c.in-CollectOut.is,
)

pub put_ticket-requires-in-Winner : goal.put_ticket-requires-in-Winner
put_ticket-requires-in-Winner c = omega (
  arith,
  c.requires.room,
  length_is c.args.order.now,
  ap length_of c.in-Winner.is,
)

pub put_ticket-requires-in-Stop : goal.put_ticket-requires-in-Stop
put_ticket-requires-in-Stop c = omega (
  arith,
  c.requires.room,
  length_is c.args.order.now,
  ap length_of c.in-Stop.is,
)
