-- Of which assignment a report speaks, and which reports a frame can carry.
use Rattle.std.specs.Prelude.{◌≤◌, Option, Some, None, IfSome}
use Rattle.ug_nodes.specs.declared.name.Ticket.{Ticket}
use Rattle.ug_frames.specs.declared.report.Report.{Report}
use Rattle.ug_frames.specs.declared.report.Report.TheVariants.{Ready, Solution, Hand, State, Done}
use Rattle.ug_frames.specs.declared.report.Report.TheVariants.{Ended}
use Rattle.ug_frames.specs.Ranges.{IsGiven, IsValue, IsPoint, AreChanges}

-- the ticket of the assignment that the report speaks of
abbrev pub ticket_of : Report → Option Ticket
ticket_of (Solution ticket point) = Some ticket
ticket_of (Hand ticket number changes) = Some ticket
ticket_of (State ticket nodes floor) = Some ticket
ticket_of (Done ticket cutoff count ending) = Some ticket
ticket_of report = None

-- the report's fields but its ticket are within their ranges
abbrev pub AreReportFields : Report → Type 0
AreReportFields Ready = Unit {0}
AreReportFields (Solution ticket point) = IsPoint point
AreReportFields (Hand ticket number changes) = AreChanges changes
AreReportFields (State ticket nodes floor) = (1 ≤ nodes) × IsValue floor
AreReportFields (Done ticket cutoff count ending) = IfSome cutoff IsValue
AreReportFields Ended = Unit {0}

-- a frame can carry the report: its ticket, if any, was given, and its fields are in their ranges
pub record IsReport (report : Report) : Type 0 where
  pub given : IfSome (ticket_of report) IsGiven
  pub fields : AreReportFields report
