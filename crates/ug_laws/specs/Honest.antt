-- When solvers are honest: what they may be trusted with, and nothing more.
use Rattle.std.specs.Prelude.{◌≡◌, ℕ, ℤ, Bool, List, ◌++◌, Contains, Option}
use Rattle.ug_rows.specs.declared.area.Interval.{Interval}
use Rattle.ug_branch.specs.declared.params.Params.{Params}
use Rattle.ug_problem.specs.Instances.{Instance, root_of}
use Rattle.ug_nodes.specs.declared.name.Ticket.{Ticket}
use Rattle.ug_nodes.specs.declared.change.Change.{Change}
use Rattle.ug_nodes.specs.Changes.{area_by}
use Rattle.ug_frames.specs.declared.order.Order.TheVariants.{Work as WorkOrder}
use Rattle.ug_frames.specs.Honest.{AreHonest}
use Rattle.ug_rules.specs.declared.told.Told.{Told}
use Rattle.ug_laws.specs.Worlds.{World}

-- the ticket was given with this box: that of an order to work on it, which is among these
pub record IsGivenWith (p : Instance) (orders : List Told) (ticket : Ticket)
    (area : List Interval) : Type 0 where
  pub rank : ℕ
  pub params : Params
  pub race : Bool
  pub cutoff : Option ℤ
  pub changes : List Change
  pub among : Contains orders
      (record { rank = rank; order = WorkOrder ticket params race cutoff changes })
  pub box : area ≡ area_by (root_of p) changes

-- so far everything that solvers sent is honest, for the tickets in orders that were sent or wait
abbrev pub IsHonest : World → Type 0
IsHonest w = AreHonest w.book.problem (IsGivenWith w.book.problem (w.told ++ w.book.orders)) w.sent
