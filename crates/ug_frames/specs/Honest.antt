-- What reports may be trusted with, and nothing more.
use Rattle.std.specs.Prelude.{◌≡◌, ℕ, ℤ, ◌<◌, List, Contains, Option}
use Rattle.ug_rows.specs.declared.area.Interval.{Interval}
use Rattle.ug_rows.specs.Boxes.{IsInside}
use Rattle.ug_problem.specs.Instances.{Instance, root_of}
use Rattle.ug_problem.specs.Better.{IsGood}
use Rattle.ug_nodes.specs.declared.name.Ticket.{Ticket}
use Rattle.ug_nodes.specs.declared.change.Change.{Change}
use Rattle.ug_nodes.specs.Changes.{AreChangesOf, area_by}
use Rattle.ug_frames.specs.declared.report.Ending.{Ending}
use Rattle.ug_frames.specs.declared.report.Report.{Report}
use Rattle.ug_frames.specs.declared.report.Report.TheVariants.{Hand, Done}

-- a hand with this number, under the ticket, was sent and spells this box; one whose changes are
-- none of a box below the root has no box
pub record IsBoxOfHand (root : List Interval) (sent : List Report) (ticket : Ticket) (hand : ℕ)
    (area : List Interval) : Type 0 where
  pub changes : List Change
  pub among : Contains sent (Hand ticket hand changes)
  pub valid : AreChangesOf root changes
  pub box : area ≡ area_by root changes

-- x lies in the box of one of the first hands under the ticket, of this many
pub record IsInHands (root : List Interval) (sent : List Report) (ticket : Ticket) (count : ℕ)
    (x : List ℤ) : Type 0 where
  pub hand : ℕ
  pub before : hand < count
  pub area : List Interval
  pub its : IsBoxOfHand root sent ticket hand area
  pub inside : IsInside area x

-- of what was sent, where tickets were given with these boxes: a hand has one box, however often
-- it was sent; and under each Done, each feasible point of its ticket's box with a value below its
-- cutoff, if it has one, lies in the box of one of the hands that it counts
pub record AreHonest (p : Instance) (Given : Ticket → List Interval → Type 0)
    (sent : List Report) : Type 0 where
  pub hands : (ticket : Ticket) (hand : ℕ) (a b : List Interval)
      → IsBoxOfHand (root_of p) sent ticket hand a → IsBoxOfHand (root_of p) sent ticket hand b
      → a ≡ b
  pub dones : (ticket : Ticket) (cutoff : Option ℤ) (count : ℕ) (ending : Ending)
      → Contains sent (Done ticket cutoff count ending)
      → (area : List Interval) → Given ticket area
      → (x : List ℤ) → IsInside area x → IsGood p cutoff x
      → IsInHands (root_of p) sent ticket count x
