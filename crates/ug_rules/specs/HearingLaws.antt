-- Preserved by every report: the invariant of a book, and, if each Done is true, that it is sound.
use Rattle.std.specs.Prelude.{◌≡◌, ℕ, ℤ, ◌<◌, List, length, Option, Some, None}
use Rattle.ug_problem.specs.Instances.{root_of}
use Rattle.ug_problem.specs.Incumbents.{one_kept}
use Rattle.ug_problem.specs.Better.{IsGap}
use Rattle.ug_nodes.specs.declared.name.Ticket.{Ticket}
use Rattle.ug_nodes.specs.declared.change.Change.{Change}
use Rattle.ug_nodes.specs.Changes.{IsRising}
use Rattle.ug_frames.specs.declared.report.Ending.{Ending}
use Rattle.ug_frames.specs.declared.report.Report.{Report}
use Rattle.ug_frames.specs.declared.report.Report.TheVariants.{Ready, Solution, Hand}
use Rattle.ug_frames.specs.declared.report.Report.TheVariants.{State as Reported, Done, Ended}
use Rattle.ug_problem.specs.Offers.{IsBetter}
use Rattle.ug_ranks.specs.declared.state.Racer.{Racer}
use Rattle.ug_ranks.specs.declared.state.Work.{Work}
use Rattle.ug_ranks.specs.declared.state.State.TheVariants.{Racing, Active}
use Rattle.ug_ranks.specs.States.{state_at}
use Rattle.ug_ledger.specs.Ledgers.{Current, IsCurrent}
use Rattle.ug_ledger.specs.Moves.{HasDone, HasEnded, HasHanded, HasImproved, HasTakenIn}
use Rattle.ug_ledger.specs.Dones.{IsSearched, IsTrueDone}
use Rattle.ug_rules.specs.declared.heard.Heard.{Heard}
use Rattle.ug_rules.specs.State.{BookState, current_for, ledger_of}
use Rattle.ug_ranks.specs.Looks.{ticket_at}
use Rattle.ug_rules.specs.Deaths.{killed}
use Rattle.ug_rules.specs.Hearing.{IsDue, IsNextHand, after_hearing, counted, kept}
use Rattle.ug_rules.specs.Books.{IsBook, IsSoundBook, Keeps}

-- the changes of a hand rise; of other reports nothing is asked
abbrev pub HasRisingChanges : Report → Type 0
HasRisingChanges Ready = Unit {0}
HasRisingChanges (Solution ticket x) = Unit {0}
HasRisingChanges (Hand ticket number changes) = IsRising changes
HasRisingChanges (Reported ticket count floor) = Unit {0}
HasRisingChanges (Done ticket told count ending) = Unit {0}
HasRisingChanges Ended = Unit {0}

-- a Done under the rank's ticket, whose count is that of the hands taken, is true: each better
-- point of the ticket's box below its cutoff is in a box taken; of other reports nothing is asked
abbrev pub IsTrueReport : BookState → ℕ → Report → Type 0
IsTrueReport b r Ready = Unit {0}
IsTrueReport b r (Solution ticket x) = Unit {0}
IsTrueReport b r (Hand ticket number changes) = Unit {0}
IsTrueReport b r (Reported ticket count floor) = Unit {0}
IsTrueReport b r (Done ticket told count ending) =
    (c : Current) → IsCurrent (ledger_of b) r c → c.ticket ≡ ticket → count ≡ length c.taken
    → IsTrueDone b.problem b.settings.gap (one_kept b.best) told c
IsTrueReport b r Ended = Unit {0}

-- event by event: a report counted
abbrev pub CountedKeeps : Type 0
CountedKeeps = (b : BookState) → Keeps b (counted b)

-- a rank that joined, and one that reported its open nodes
abbrev pub ReadyKeeps : Type 0
ReadyKeeps = (b : BookState) (r : ℕ) → r < length b.ranks → Keeps b (kept r Ready b)

abbrev pub ReportedKeeps : Type 0
ReportedKeeps =
    (b : BookState) (r : ℕ) (ticket : Ticket) (count : ℕ) (floor : ℤ) → r < length b.ranks
    → Keeps b (kept r (Reported ticket count floor) b)

-- a better point
abbrev pub SolutionKeeps : Type 0
SolutionKeeps =
    (b : BookState) (r : ℕ) (ticket : Ticket) (x : List ℤ) → IsBetter b.problem b.best x
    → Keeps b (kept r (Solution ticket x) b)

-- the death of a rank
abbrev pub DeathKeeps : Type 0
DeathKeeps = (b : BookState) (r : ℕ) → r < length b.ranks → Keeps b (killed r b)

-- a hand of a rank that works
abbrev pub HandKeeps : Type 0
HandKeeps =
    (b : BookState) (r : ℕ) (work : Work) (ticket : Ticket) (number : ℕ) (changes : List Change)
    → r < length b.ranks → state_at b.ranks r ≡ Active work → IsNextHand b work number changes
    → IsRising changes → Keeps b (kept r (Hand ticket number changes) b)

-- a Done, and where its ticket's box was searched
abbrev pub DoneKeepsBook : Type 0
DoneKeepsBook =
    (b : BookState) (r : ℕ) (ticket : Ticket) (told : Option ℤ) (count : ℕ) (ending : Ending)
    → r < length b.ranks → IsBook b → IsBook (kept r (Done ticket told count ending) b)

abbrev pub DoneKeepsSound : Type 0
DoneKeepsSound =
    (b : BookState) (r : ℕ) (ticket : Ticket) (told : Option ℤ) (count : ℕ) (ending : Ending)
    → r < length b.ranks
    → ((c : Current) → IsCurrent (ledger_of b) r c
    → IsSearched b.problem b.settings.gap (one_kept b.best) c)
    → IsBook b → IsSoundBook b → IsSoundBook (kept r (Done ticket told count ending) b)

-- what the events are to the ledger: it is the same
abbrev pub KeepsLedger : BookState → BookState → Type 0
KeepsLedger old new = ledger_of new ≡ ledger_of old

abbrev pub CountedIsNone : Type 0
CountedIsNone = (b : BookState) → KeepsLedger b (counted b)

abbrev pub ReadyIsNone : Type 0
ReadyIsNone = (b : BookState) (r : ℕ) → KeepsLedger b (kept r Ready b)

abbrev pub ReportedIsNone : Type 0
ReportedIsNone =
    (b : BookState) (r : ℕ) (ticket : Ticket) (count : ℕ) (floor : ℤ)
    → KeepsLedger b (kept r (Reported ticket count floor) b)

abbrev pub IdleDeathIsNone : Type 0
IdleDeathIsNone =
    (b : BookState) (r : ℕ) → ticket_at (state_at b.ranks r) ≡ None → KeepsLedger b (killed r b)

-- or it took a move
abbrev pub SolutionHasImproved : Type 0
SolutionHasImproved =
    (b : BookState) (x : List ℤ) → IsGap b.settings.gap → IsBetter b.problem b.best x
    → HasImproved b.problem b.settings.gap (one_kept b.best) (one_kept (Some x))

abbrev pub DeathHasTakenIn : Type 0
DeathHasTakenIn =
    (b : BookState) (r : ℕ) (work : Work) → r < length b.ranks → state_at b.ranks r ≡ Active work
    → IsBook b → HasTakenIn (ledger_of b) (ledger_of (killed r b)) r (current_for work)

abbrev pub RacerDeathHasEnded : Type 0
RacerDeathHasEnded =
    (b : BookState) (r : ℕ) (racer : Racer) → r < length b.ranks
    → state_at b.ranks r ≡ Racing racer → IsBook b
    → HasEnded (ledger_of b) (ledger_of (killed r b))

abbrev pub HandHasHanded : Type 0
HandHasHanded =
    (b : BookState) (r : ℕ) (work : Work) (ticket : Ticket) (number : ℕ) (changes : List Change)
    → r < length b.ranks → state_at b.ranks r ≡ Active work → IsNextHand b work number changes
    → HasHanded (root_of b.problem) (ledger_of b)
    (ledger_of (kept r (Hand ticket number changes) b)) r (current_for work) changes

abbrev pub DoneHasDone : Type 0
DoneHasDone =
    (b : BookState) (r : ℕ) (ticket : Ticket) (told : Option ℤ) (count : ℕ) (ending : Ending)
    (c : Current)
    → r < length b.ranks → IsCurrent (ledger_of b) r c → IsBook b
    → HasDone (ledger_of b) (ledger_of (kept r (Done ticket told count ending) b)) r c

-- the whole: whatever is received, under the answer that is due
abbrev pub HearingKeepsBook : Type 0
HearingKeepsBook =
    (b : BookState) (r : ℕ) (report : Report) (answer : Heard) → r < length b.ranks
    → IsDue b r report answer → HasRisingChanges report
    → IsBook b → IsBook (after_hearing answer r report b)

abbrev pub HearingKeepsSound : Type 0
HearingKeepsSound =
    (b : BookState) (r : ℕ) (report : Report) (answer : Heard) → r < length b.ranks
    → IsDue b r report answer → IsTrueReport b r report
    → IsBook b → IsSoundBook b → IsSoundBook (after_hearing answer r report b)
