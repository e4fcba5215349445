-- What a report is answered, and what is done under the answer.
use Rattle.std.specs.Prelude.{◌≡◌, ◌≢◌, if◌then◌else◌, ℕ, ℤ, ◌+◌, ◌<◌, ◌^◌, nat_lt, Bool, true, false}
use Rattle.std.specs.Prelude.{List, length}
use Rattle.std.specs.Prelude.{Option, Some, None, slice_set}
use Rattle.ug_problem.specs.Instances.{root_of}
use Rattle.ug_nodes.specs.declared.name.Ticket.{Ticket}
use Rattle.ug_nodes.specs.declared.change.Change.{Change}
use Rattle.ug_nodes.specs.Changes.{area_by}
use Rattle.ug_nodes.specs.Outside.{IsFirstOutside, SpellBelow}
use Rattle.ug_rows.specs.Sums.{box_floor}
use Rattle.ug_pool.specs.Pools.{with_entry}
use Rattle.ug_frames.specs.declared.report.Report.{Report}
use Rattle.ug_frames.specs.declared.report.Report.TheVariants.{Ready, Solution, Hand}
use Rattle.ug_frames.specs.declared.report.Report.TheVariants.{State as Reported, Done, Ended}
use Rattle.ug_problem.specs.Offers.{IsBetter, IsBroken, IsNotBetter}
use Rattle.ug_ranks.specs.declared.state.Work.{Work}
use Rattle.ug_ranks.specs.declared.state.State.{State}
use Rattle.ug_ranks.specs.declared.state.State.TheVariants.{Absent, Idle, Racing, Active, Dead}
use Rattle.ug_ranks.specs.States.{state_at}
use Rattle.ug_ranks.specs.Changes.{grown, joined, noted}
use Rattle.ug_ledger.specs.Moves.{handed_node}
use Rattle.ug_ledger.specs.Dones.{IsBackedBy}
use Rattle.ug_rules.specs.declared.heard.Heard.{Heard}
use Rattle.ug_rules.specs.declared.heard.Heard.TheVariants.{Kept, Stale, Early, Broken, NotBetter}
use Rattle.ug_rules.specs.declared.heard.Heard.TheVariants.{InRace, Again, Gap, Outside, Unbacked}
use Rattle.ug_rules.specs.declared.heard.Heard.TheVariants.{Short, Memory}
use Rattle.ug_rules.specs.State.{BookState, current_for, cutoff_of_best}
use Rattle.ug_rules.specs.Ranks.{racers_freed}
use Rattle.ug_ranks.specs.Looks.{ticket_at}
use Rattle.ug_rules.specs.Deaths.{killed}

-- one report more, up to the end of its count
abbrev pub counted : BookState → BookState
counted b = record b { heard = (if nat_lt (b.heard + 1) (2 ^ 64) then b.heard + 1 else b.heard) }

-- which answer a point gets
abbrev pub IsSolutionDue : BookState → List ℤ → Heard → Type 0
IsSolutionDue b x Kept = IsBetter b.problem b.best x
IsSolutionDue b x (Broken first) = IsBroken b.problem x first
IsSolutionDue b x (NotBetter kept given) = IsNotBetter b.problem b.best x kept given
IsSolutionDue b x answer = ⊥

-- the hand is the next, and spells a box below that of the ticket's node
pub record IsNextHand (b : BookState) (work : Work) (number : ℕ)
    (changes : List Change) : Type 0 where
  pub next : number ≡ length work.taken
  pub below : SpellBelow (root_of b.problem) work.node.changes changes

-- the hand is not the next
pub record IsTooFar (work : Work) (number want got : ℕ) : Type 0 where
  pub wanted : want ≡ length work.taken
  pub told : got ≡ number
  pub above : want < got

-- the hand is the next, and this is the least column in which its box leaves that of the ticket's
-- node
pub record IsHandOutside (b : BookState) (work : Work) (number : ℕ) (changes : List Change)
    (column : ℕ) : Type 0 where
  pub next : number ≡ length work.taken
  pub first : IsFirstOutside (root_of b.problem) work.node.changes changes column

-- which answer a hand of a rank that works gets
abbrev pub IsHandDue : BookState → Work → ℕ → List Change → Heard → Type 0
IsHandDue b work number changes Kept = IsNextHand b work number changes
IsHandDue b work number changes Again = number < length work.taken
IsHandDue b work number changes (Gap want got) = IsTooFar work number want got
IsHandDue b work number changes (Outside column) = IsHandOutside b work number changes column
IsHandDue b work number changes Memory = IsNextHand b work number changes
IsHandDue b work number changes answer = ⊥

-- the cutoff of a Done is not backed by the incumbent, whose cutoff is named
pub record IsUnbacked (b : BookState) (told : Option ℤ) (cutoff : ℤ)
    (incumbent : Option ℤ) : Type 0 where
  pub is_cutoff : told ≡ Some cutoff
  pub is_incumbent : incumbent ≡ cutoff_of_best b
  pub not_backed : ¬ IsBackedBy b.problem b.settings.gap b.best told

-- the cutoff of a Done is backed, and its count is that of the hands taken
pub record IsComplete (b : BookState) (told : Option ℤ) (count taken : ℕ) : Type 0 where
  pub backed : IsBackedBy b.problem b.settings.gap b.best told
  pub all : count ≡ taken

-- the cutoff of a Done is backed, and its count is not that of the hands taken
pub record IsShort (b : BookState) (told : Option ℤ) (count taken said kept : ℕ) : Type 0 where
  pub backed : IsBackedBy b.problem b.settings.gap b.best told
  pub said_is : said ≡ count
  pub kept_is : kept ≡ taken
  pub differ : count ≢ taken

-- which answer a Done gets, with this number of hands taken
abbrev pub IsDoneDue : BookState → ℕ → Option ℤ → ℕ → Heard → Type 0
IsDoneDue b taken told count Kept = IsComplete b told count taken
IsDoneDue b taken told count (Unbacked cutoff incumbent) = IsUnbacked b told cutoff incumbent
IsDoneDue b taken told count (Short said kept) = IsShort b told count taken said kept
IsDoneDue b taken told count answer = ⊥

-- which answer a report gets under the rank's current ticket, where it races
abbrev pub IsRacerDue : BookState → Report → Heard → Type 0
IsRacerDue b (Solution ticket x) answer = IsSolutionDue b x answer
IsRacerDue b (Hand ticket number changes) answer = answer ≡ InRace
IsRacerDue b (Reported ticket count floor) answer = answer ≡ Kept
IsRacerDue b (Done ticket told count ending) answer = IsDoneDue b 0 told count answer
IsRacerDue b report answer = ⊥

-- and where it works
abbrev pub IsWorkerDue : BookState → Work → Report → Heard → Type 0
IsWorkerDue b work (Solution ticket x) answer = IsSolutionDue b x answer
IsWorkerDue b work (Hand ticket number changes) answer = IsHandDue b work number changes answer
IsWorkerDue b work (Reported ticket count floor) answer = answer ≡ Kept
IsWorkerDue b work (Done ticket told count ending) answer = IsDoneDue b
    (length work.taken) told count answer
IsWorkerDue b work report answer = ⊥

-- which answer a report gets under the current ticket of a rank in this state
abbrev pub IsCurrentDue : BookState → State → Report → Heard → Type 0
IsCurrentDue b (Racing racer) report answer = IsRacerDue b report answer
IsCurrentDue b (Active work) report answer = IsWorkerDue b work report answer
IsCurrentDue b state report answer = ⊥

-- a report under a ticket: it is judged if that is the rank's current one, and is stale otherwise
pub record IsDueUnder (b : BookState) (state : State) (ticket : Ticket) (report : Report)
    (answer : Heard) : Type 0 where
  pub current : ticket_at state ≡ Some ticket → IsCurrentDue b state report answer
  pub other : ticket_at state ≢ Some ticket → answer ≡ Stale

-- what Ready is answered in this state
abbrev pub ready_answer : State → Heard
ready_answer Absent = Kept
ready_answer Idle = Early
ready_answer (Racing racer) = Early
ready_answer (Active work) = Early
ready_answer (Dead how) = Stale

-- what Ended is answered in this state
abbrev pub ended_answer : State → Heard
ended_answer Absent = Early
ended_answer Idle = Early
ended_answer (Racing racer) = Early
ended_answer (Active work) = Early
ended_answer (Dead how) = Stale

-- which answer a report gets from a rank
abbrev pub IsDue : BookState → ℕ → Report → Heard → Type 0
IsDue b r Ready answer = answer ≡ ready_answer (state_at b.ranks r)
IsDue b r (Solution ticket x) answer = IsDueUnder b (state_at b.ranks r) ticket
    (Solution ticket x) answer
IsDue b r (Hand ticket number changes) answer =
    IsDueUnder b (state_at b.ranks r) ticket (Hand ticket number changes) answer
IsDue b r (Reported ticket count floor) answer =
    IsDueUnder b (state_at b.ranks r) ticket (Reported ticket count floor) answer
IsDue b r (Done ticket told count ending) answer = IsDueUnder b (state_at b.ranks r) ticket
    (Done ticket told count ending) answer
IsDue b r Ended answer = answer ≡ ended_answer (state_at b.ranks r)

-- the next hand of a rank that works is in the pool, with its floor, and its box is taken
abbrev pub handed_by : Work → ℕ → List Change → BookState → BookState
handed_by work r changes b = record b {
  pool = with_entry (record {
    floor = box_floor b.problem.objective (area_by (root_of b.problem) changes);
    node = handed_node (current_for work) changes;
  }) b.pool;
  ranks = slice_set b.ranks r (grown (area_by (root_of b.problem) changes) (state_at b.ranks r));
}

-- a hand of a rank in this state is kept
abbrev pub handed_at : State → ℕ → List Change → BookState → BookState
handed_at (Active work) r changes b = handed_by work r changes b
handed_at state r changes b = b

-- a Done of a rank in this state is kept: its node leaves, and in a race the root, which ends the
-- race
abbrev pub done_at : State → ℕ → BookState → BookState
done_at (Racing racer) r b = record b { ranks = racers_freed b.ranks; raced = None }
done_at (Active work) r b = record b { ranks = slice_set b.ranks r Idle }
done_at state r b = b

-- the report of a rank is kept
abbrev pub kept : ℕ → Report → BookState → BookState
kept r Ready b = record b { ranks = slice_set b.ranks r (joined (state_at b.ranks r)) }
kept r (Solution ticket x) b = record b { best = Some x }
kept r (Hand ticket number changes) b = handed_at (state_at b.ranks r) r changes b
kept r (Reported ticket count floor) b =
    record b { ranks = slice_set b.ranks r (noted count floor (state_at b.ranks r)) }
kept r (Done ticket told count ending) b = done_at (state_at b.ranks r) r b
kept r Ended b = b

-- a report that is kept is taken up, and after any other answer nothing was done yet
abbrev pub taken_up : Heard → ℕ → Report → BookState → BookState
taken_up Kept r report b = kept r report b
taken_up answer r report b = b

-- whether the rank is dead after the answer
abbrev pub is_deadly : Heard → Bool
is_deadly Kept = false
is_deadly Stale = false
is_deadly Early = true
is_deadly (Broken first) = true
is_deadly (NotBetter was given) = false
is_deadly InRace = true
is_deadly Again = false
is_deadly (Gap want got) = true
is_deadly (Outside column) = true
is_deadly (Unbacked cutoff incumbent) = true
is_deadly (Short said was) = true
is_deadly Memory = false

-- the death that the answer is, if it is one
abbrev pub killed_under : Heard → ℕ → BookState → BookState
killed_under answer r b = (if is_deadly answer then killed r b else b)

-- a hand for which there is no memory counts for no report
abbrev pub counted_under : Heard → BookState → BookState
counted_under Memory b = b
counted_under answer b = counted b

-- what was done under the answer
abbrev pub after_hearing : Heard → ℕ → Report → BookState → BookState
after_hearing answer r report b =
    counted_under answer (killed_under answer r (taken_up answer r report b))

-- a State has an open node; of other reports nothing is asked
abbrev pub IsHearable : Report → Type 0
IsHearable Ready = Unit {0}
IsHearable (Solution ticket x) = Unit {0}
IsHearable (Hand ticket number changes) = Unit {0}
IsHearable (Reported ticket count floor) = 0 < count
IsHearable (Done ticket told count ending) = Unit {0}
IsHearable Ended = Unit {0}
