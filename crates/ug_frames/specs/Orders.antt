-- Of which assignment an order speaks, and which orders a frame can carry.
use Rattle.std.specs.Prelude.{◌≤◌, Option, Some, None, IfSome}
use Rattle.ug_nodes.specs.declared.name.Ticket.{Ticket}
use Rattle.ug_frames.specs.declared.order.Order.{Order}
use Rattle.ug_frames.specs.declared.order.Order.TheVariants.{Setup, Work, Incumbent, CollectIn}
use Rattle.ug_frames.specs.declared.order.Order.TheVariants.{CollectOut, Winner, Stop, End}
use Rattle.ug_problem.specs.Better.{IsGap}
use Rattle.ug_frames.specs.Ranges.{IsGiven, IsValue, HasRoom, AreChanges}

-- the ticket of the assignment that the order speaks of
abbrev pub ticket_of : Order → Option Ticket
ticket_of (Work ticket params race cutoff changes) = Some ticket
ticket_of (CollectIn ticket count) = Some ticket
ticket_of (CollectOut ticket) = Some ticket
ticket_of (Winner ticket) = Some ticket
ticket_of (Stop ticket) = Some ticket
ticket_of order = None

-- the order's fields but its ticket are within their ranges
abbrev pub AreOrderFields : Order → Type 0
AreOrderFields (Setup gap bytes) = IsGap gap × HasRoom bytes
AreOrderFields (Work ticket params race cutoff changes) = IfSome cutoff IsValue × AreChanges changes
AreOrderFields (Incumbent cutoff) = IsValue cutoff
AreOrderFields (CollectIn ticket count) = 1 ≤ count
AreOrderFields (CollectOut ticket) = Unit {0}
AreOrderFields (Winner ticket) = Unit {0}
AreOrderFields (Stop ticket) = Unit {0}
AreOrderFields End = Unit {0}

-- a frame can carry the order: its ticket, if any, was given, and its fields are in their ranges
pub record IsOrder (order : Order) : Type 0 where
  pub given : IfSome (ticket_of order) IsGiven
  pub fields : AreOrderFields order
