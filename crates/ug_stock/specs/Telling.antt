-- The order that is sent with a node.
use Rattle.std.specs.Prelude.{ℕ, Bool, List}
use Rattle.ug_branch.specs.declared.params.Params.{Params}
use Rattle.ug_nodes.specs.declared.name.Ticket.{Ticket}
use Rattle.ug_nodes.specs.declared.change.Change.{Change}
use Rattle.ug_frames.specs.declared.order.Order.TheVariants.{Work as WorkOrder}
use Rattle.ug_rules.specs.declared.told.Told.{Told}
use Rattle.ug_stock.specs.declared.terms.Terms.{Terms}

-- the ticket of this number
abbrev pub ticket_under : Terms → ℕ → Ticket
ticket_under terms number = record { run = terms.run; number = number }

-- the order for a rank to work on the box of these changes
abbrev pub told_under : Terms → ℕ → ℕ → Params → Bool → List Change → Told
told_under terms r number params race changes = record {
  rank = r;
  order = WorkOrder (ticket_under terms number) params race terms.cutoff changes;
}
