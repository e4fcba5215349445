-- The laws of workers at links: what each sends is true, and what all send is honest.
use Rattle.std.specs.Prelude.{◌≡◌, ◌⊎◌, ℤ, List, [], ◌∷◌, ◌++◌, All, Contains, Option, None, Some}
use Rattle.ug_rows.specs.declared.area.Interval.{Interval}
use Rattle.ug_problem.specs.Instances.{Instance, root_of}
use Rattle.ug_nodes.specs.declared.name.Ticket.{Ticket}
use Rattle.ug_nodes.specs.Changes.{area_by}
use Rattle.ug_frames.specs.declared.report.Report.{Report}
use Rattle.ug_frames.specs.Honest.{AreHonest}
use Rattle.ug_serve.specs.Actions.{Action, Came, Took, Told}
use Rattle.ug_serve.specs.Traces.{IsTrace, ServerState, beginning}
use Rattle.ug_serve.specs.Transcripts.{IsSetUpWith, IsTranscript, Ordered, order_of, reports_in}
use Rattle.ug_serve.specs.Transcripts.{turned, work_of}

-- what a worker does from the beginning, whatever it receives, is a transcript
abbrev pub TracesAreTranscripts : Type 0
TracesAreTranscripts = (actions : List Action) (now : ServerState) → IsTrace beginning actions now
    → IsTranscript (turned [] actions)

-- the ticket of an order of work, if it is one
abbrev pub tickets_of : Option Ordered → List Ticket
tickets_of None = []
tickets_of (Some work) = work.ticket ∷ []

-- the tickets of the orders of work that were taken
abbrev pub tickets_in : List Action → List Ticket
tickets_in [] = []
tickets_in (Came bytes ∷ past) = tickets_in past
tickets_in (Took order ∷ past) = tickets_of (work_of order) ++ tickets_in past
tickets_in (Told report ∷ past) = tickets_in past

-- by all of these workers
abbrev pub tickets_by : List (List Action) → List Ticket
tickets_by [] = []
tickets_by (past ∷ pasts) = tickets_in past ++ tickets_by pasts

-- what all of them sent
abbrev pub told_by : List (List Action) → List Report
told_by [] = []
told_by (past ∷ pasts) = reports_in past ++ told_by pasts

-- none stands twice
abbrev pub AreOnce : List Ticket → Type 0
AreOnce [] = Unit {0}
AreOnce (ticket ∷ tickets) = (¬ Contains tickets ticket) × AreOnce tickets

-- one of them took an order to search the box under the ticket
pub record IsOrderedTo (p : Instance) (pasts : List (List Action)) (ticket : Ticket)
    (area : List Interval) : Type 0 where
  pub past : List Action
  pub among : Contains pasts past
  pub work : Ordered
  pub taken : Contains past (Took (order_of work))
  pub its : work.ticket ≡ ticket
  pub box : area ≡ area_by (root_of p) work.changes

-- a worker was set up with no other problem than this
abbrev pub IsSetUpFor : Instance → List Action → Type 0
IsSetUpFor p past = (reports_in past ≡ [])
    ⊎ ((gap : ℤ) × IsSetUpWith past (record { problem = p; gap = gap }))

-- What workers at links send is honest, whatever they receive, where they were set up with one
-- problem and no ticket was ordered twice.
abbrev pub WorkersAreHonest : Type 0
WorkersAreHonest = (p : Instance) (pasts : List (List Action)) → All IsTranscript pasts
    → All (IsSetUpFor p) pasts → AreOnce (tickets_by pasts)
    → AreHonest p (IsOrderedTo p pasts) (told_by pasts)
