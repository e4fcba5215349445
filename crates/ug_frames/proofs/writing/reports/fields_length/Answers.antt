use Rattle.std.proofs.Common.{arith, ap}
use Rattle.ug_frames.proofs.Lengths.{report_length_of, report_length_is}
use Rattle.ug_frames.proofs.writing.reports.fields_length.Goals as goal

pub returns-in-Solution-clause-long : goal.returns-in-Solution-clause-long
returns-in-Solution-clause-long c = omega (
  arith,
  report_length_is c.args.report.now,
  ap report_length_of c.in-Solution.is,
  c.point_length.ensures.long,
)

pub returns-in-Hand-clause-long : goal.returns-in-Hand-clause-long
returns-in-Hand-clause-long c = omega (
  arith,
  report_length_is c.args.report.now,
  ap report_length_of c.in-Hand.is,
  c.changes_length.ensures.long,
)

pub returns-in-State-clause-long : goal.returns-in-State-clause-long
returns-in-State-clause-long c =
    omega (arith, report_length_is c.args.report.now, ap report_length_of c.in-State.is)

pub returns-in-Done-clause-long : goal.returns-in-Done-clause-long
returns-in-Done-clause-long c = omega (
  arith,
  report_length_is c.args.report.now,
  ap report_length_of c.in-Done.is,
  c.optional_length.ensures.long,
)
