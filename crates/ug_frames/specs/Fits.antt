-- Which numbers are ones of their types. A definition ranges over all numbers, a message does not.
use Rattle.std.specs.Prelude.{◌<◌, ◌^◌, IfSome}
use Rattle.ug_nodes.specs.declared.name.Ticket.{Ticket}
use Rattle.ug_fields.specs.Readers.{IsBytes}
use Rattle.ug_frames.specs.declared.order.Order.{Order}
use Rattle.ug_frames.specs.declared.order.Order.TheVariants.{Setup, CollectIn}
use Rattle.ug_frames.specs.declared.report.Report.{Report}
use Rattle.ug_frames.specs.declared.report.Report.TheVariants.{Hand, State, Done}
use Rattle.ug_frames.specs.Orders.{ticket_of}
use Rattle.ug_frames.specs.Reports.{ticket_of as report_ticket}

-- the two numbers of a ticket have eight bytes each
pub record FitsTicket (ticket : Ticket) : Type 0 where
  pub run : ticket.run < 2 ^ 64
  pub number : ticket.number < 2 ^ 64

-- the order's numbers but its ticket's are of their types, where no range says more
abbrev pub FitOrderFields : Order → Type 0
FitOrderFields (Setup gap bytes) = IsBytes bytes
FitOrderFields (CollectIn ticket count) = count < 2 ^ 32
FitOrderFields order = Unit {0}

-- the report's numbers but its ticket's are of their types, where no range says more
abbrev pub FitReportFields : Report → Type 0
FitReportFields (Hand ticket number changes) = number < 2 ^ 64
FitReportFields (State ticket nodes floor) = nodes < 2 ^ 64
FitReportFields (Done ticket cutoff count ending) = count < 2 ^ 64
FitReportFields report = Unit {0}

-- each number of the order is one of its type
pub record FitsOrder (order : Order) : Type 0 where
  pub ticket : IfSome (ticket_of order) FitsTicket
  pub fields : FitOrderFields order

-- each number of the report is one of its type
pub record FitsReport (report : Report) : Type 0 where
  pub ticket : IfSome (report_ticket report) FitsTicket
  pub fields : FitReportFields report
