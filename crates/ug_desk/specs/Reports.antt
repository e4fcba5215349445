-- The reports of a pass: the book receives them under the ticket of the pass's last work.
use Rattle.std.specs.Prelude.{◌≡◌, ◌≢◌, ℕ, ℤ, ◌<◌, ◌≤◌, ◌⊎◌, true, List, Some, MatchBool}
use Rattle.ug_rows.specs.declared.area.Interval.{Interval}
use Rattle.ug_problem.specs.Instances.{root_of}
use Rattle.ug_nodes.specs.declared.name.Ticket.{Ticket}
use Rattle.ug_nodes.specs.declared.change.Change.{Change}
use Rattle.ug_nodes.specs.Changes.{IsRising, Tell}
use Rattle.ug_frames.specs.declared.report.Report.{Report}
use Rattle.ug_frames.specs.declared.report.Report.TheVariants.{Solution, Hand, State as Reported}
use Rattle.ug_ranks.specs.States.{state_at}
use Rattle.ug_rules.specs.declared.heard.Heard.{Heard}
use Rattle.ug_rules.specs.declared.heard.Heard.TheVariants.{Memory}
use Rattle.ug_rules.specs.State.{BookState, cutoff_of_best}
use Rattle.ug_ranks.specs.Looks.{asked_at, is_racing, ticket_at}
use Rattle.ug_rules.specs.Hearing.{IsDue, after_hearing}
use Rattle.ug_worker.specs.declared.reply.Reply.{Reply}
use Rattle.ug_desk.specs.Decided.{HasDecided, HasStood}

-- the book receives the report of rank r, and gives the answer that is due
pub record HasHeard (r : ℕ) (report : Report) (answer : Heard) (old new : BookState)
    : Type 0 where
  pub due : IsDue old r report answer
  pub done : new ≡ after_hearing answer r report old

-- a point that was found
abbrev pub HasOffered : ℕ → Ticket → List ℤ → Heard → BookState → BookState → Type 0
HasOffered r ticket x answer old new = HasHeard r (Solution ticket x) answer old new

-- a box that is handed, as the changes that describe it
pub record HasHandedBox (r : ℕ) (ticket : Ticket) (number : ℕ) (area : List Interval)
    (answer : Heard) (old new : BookState) : Type 0 where
  pub changes : List Change
  pub rising : IsRising changes
  pub told : Tell (root_of old.problem) changes area
  pub heard : HasHeard r (Hand ticket number changes) answer old new

-- or memory ended it, and nothing changed
pub record HasNoMemory (answer : Heard) (old new : BookState) : Type 0 where
  pub memory : answer ≡ Memory
  pub same : new ≡ old

abbrev pub HasHanded : ℕ → Ticket → ℕ → List Interval → Heard → BookState → BookState → Type 0
HasHanded r ticket number area answer old new =
    HasHandedBox r ticket number area answer old new ⊎ HasNoMemory answer old new

-- the ticket has ended, or the limit of reports is reached
abbrev pub IsStop : BookState → ℕ → Ticket → Type 0
IsStop b r ticket =
    (ticket_at (state_at b.ranks r) ≢ Some ticket) ⊎ (b.settings.limit ≤ b.heard)

-- neither is so
pub record IsGoingOn (b : BookState) (r : ℕ) (ticket : Ticket) : Type 0 where
  pub current : ticket_at (state_at b.ranks r) ≡ Some ticket
  pub below : b.heard < b.settings.limit

-- the reply of the book to a rank that works under the ticket
pub record IsReply (b : BookState) (r : ℕ) (ticket : Ticket) (reply : Reply) : Type 0 where
  pub cutoff : reply.cutoff ≡ cutoff_of_best b
  pub collect : reply.collect ≡ asked_at (state_at b.ranks r)
  pub stop : MatchBool reply.stop (IsStop b r ticket) (IsGoingOn b r ticket)
  pub racing : reply.racing ≡ is_racing (state_at b.ranks r)

-- the report of the boxes left was received
pub record HasNoted (r : ℕ) (ticket : Ticket) (left : ℕ) (floor : ℤ) (old new : BookState)
    : Type 0 where
  pub answer : Heard
  pub heard : HasHeard r (Reported ticket left floor) answer old new

-- if the rank races, a decision follows
abbrev pub HasMovedOn : ℕ → BookState → BookState → Type 0
HasMovedOn r old new =
    MatchBool (is_racing (state_at old.ranks r)) (HasDecided old new) (new ≡ old)

-- the boxes left were reported, and this replied
pub record HasStated (r : ℕ) (ticket : Ticket) (left : ℕ) (floor : ℤ) (reply : Reply)
    (old new : BookState) : Type 0 where
  pub noted : BookState
  pub told : HasNoted r ticket left floor old noted
  pub moved : HasMovedOn r noted new
  pub replied : IsReply new r ticket reply

-- or it races, and memory ran out in the decision, of which the first `stood` steps stand
pub record HasHalted (r : ℕ) (stood : ℕ) (old new : BookState) : Type 0 where
  pub races : is_racing (state_at old.ranks r) ≡ true
  pub stands : HasStood stood old new

pub record HasNotStated (r : ℕ) (ticket : Ticket) (left : ℕ) (floor : ℤ) (stood : ℕ)
    (old new : BookState) : Type 0 where
  pub noted : BookState
  pub told : HasNoted r ticket left floor old noted
  pub halted : HasHalted r stood noted new
