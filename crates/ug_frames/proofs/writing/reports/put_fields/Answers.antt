use Rattle.std.proofs.Common.{arith, ap, subst}
use Rattle.ug_frames.specs.Reports.{AreReportFields}
use Rattle.ug_frames.proofs.Lengths.{report_length_of, report_length_is, changes_long, point_long, few}
use Rattle.ug_frames.proofs.writing.reports.put_fields.Goals as goal

pub put_changes-requires-clause-few : goal.put_changes-requires-clause-few
put_changes-requires-clause-few c =
    few c.in-Hand.changes (subst AreReportFields c.in-Hand.is c.requires.report.fields)

pub put_ticket-requires : goal.put_ticket-requires
put_ticket-requires c = omega (
  arith,
  c.requires.room,
  report_length_is c.args.report.now,
  ap report_length_of c.in-Solution.is,
)

pub put_point-requires-clause-room : goal.put_point-requires-clause-room
put_point-requires-clause-room c = omega (
  arith,
  c.requires.room,
  report_length_is c.args.report.now,
  ap report_length_of c.in-Solution.is,
  point_long c.in-Solution.point,
)

pub put_ticket-requires-in-Hand : goal.put_ticket-requires-in-Hand
put_ticket-requires-in-Hand c = omega (
  arith,
  c.requires.room,
  report_length_is c.args.report.now,
  ap report_length_of c.in-Hand.is,
)

pub put_long-requires : goal.put_long-requires
put_long-requires c = omega (
  arith,
  c.requires.room,
  report_length_is c.args.report.now,
  ap report_length_of c.in-Hand.is,
)

pub put_changes-requires-clause-room : goal.put_changes-requires-clause-room
put_changes-requires-clause-room c = omega (
  arith,
  c.requires.room,
  report_length_is c.args.report.now,
  ap report_length_of c.in-Hand.is,
  changes_long c.in-Hand.changes,
)

pub put_ticket-requires-in-State : goal.put_ticket-requires-in-State
put_ticket-requires-in-State c = omega (
  arith,
  c.requires.room,
  report_length_is c.args.report.now,
  ap report_length_of c.in-State.is,
)

pub put_long-requires-in-State : goal.put_long-requires-in-State
put_long-requires-in-State c = omega (
  arith,
  c.requires.room,
  report_length_is c.args.report.now,
  ap report_length_of c.in-State.is,
)

pub put_number-requires : goal.put_number-requires
put_number-requires c = omega (
  arith,
  c.requires.room,
  report_length_is c.args.report.now,
  ap report_length_of c.in-State.is,
)

pub put_ticket-requires-in-Done-default-default-default-Plain : goal.put_ticket-requires-in-Done-default-default-default-Plain
put_ticket-requires-in-Done-default-default-default-Plain c = omega (
  arith,
  c.requires.room,
  report_length_is c.args.report.now,
  ap report_length_of c.in-Done-default-default-default-Plain.is,
)

pub put_optional-requires : goal.put_optional-requires
put_optional-requires c = omega (
  arith,
  c.requires.room,
  report_length_is c.args.report.now,
  ap report_length_of c.in-Done-default-default-default-Plain.is,
)

pub put_long-requires-in-Done-default-default-default-Plain : goal.put_long-requires-in-Done-default-default-default-Plain
put_long-requires-in-Done-default-default-default-Plain c = omega (
  arith,
  c.requires.room,
  report_length_is c.args.report.now,
  ap report_length_of c.in-Done-default-default-default-Plain.is,
)
