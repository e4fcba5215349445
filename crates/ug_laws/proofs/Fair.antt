-- Which reports no book answers with a death.
use Rattle.std.proofs.Common.{◌≡◌, inl, inr, ℕ, ℤ, false, List, length, Option, Some, refl, sym, subst, ◌∙◌, arith}
use Rattle.std.proofs.lemmas.Bool.{cases_Bool, false≢true}
use Rattle.ug_rows.specs.declared.area.Interval.{Interval}
use Rattle.ug_problem.specs.Feasible.{Feasible}
use Rattle.ug_problem.specs.Instances.{root_of}
use Rattle.ug_nodes.specs.declared.name.Ticket.{Ticket}
use Rattle.ug_nodes.specs.declared.change.Change.{Change}
use Rattle.ug_nodes.specs.Outside.{ColumnFits, SpellBelow}
use Rattle.ug_nodes.proofs.Areas.{area_by_width}
use Rattle.ug_frames.specs.declared.report.Ending.{Ending}
use Rattle.ug_frames.specs.declared.report.Report.{Report}
use Rattle.ug_frames.specs.declared.report.Report.TheVariants.{Ready, Solution, Hand, State as Reported, Done, Ended}
use Rattle.ug_ranks.specs.declared.state.Work.{Work}
use Rattle.ug_ranks.specs.declared.state.State.{State}
use Rattle.ug_ranks.specs.declared.state.State.TheVariants.{Absent, Idle, Racing, Active, Dead}
use Rattle.ug_ranks.specs.Looks.{hands_taken, ticket_at}
use Rattle.ug_ranks.specs.States.{state_at}
use Rattle.ug_ledger.specs.Dones.{IsBackedBy}
use Rattle.ug_rules.specs.declared.heard.Heard.{Heard}
use Rattle.ug_rules.specs.declared.heard.Heard.TheVariants.{Kept, Stale, Early, Broken, NotBetter, InRace, Again, Gap, Outside, Unbacked, Short, Memory}
use Rattle.ug_rules.specs.State.{BookState}
use Rattle.ug_rules.specs.Hearing.{IsCurrentDue, IsDoneDue, IsDue, IsDueUnder, IsHandDue, IsNextHand, IsSolutionDue, ended_answer, is_deadly, ready_answer}

-- a hand is the next of a rank that works, and of a box below that of the ticket
pub record IsFairHand (b : BookState) (state : State) (number : ℕ) (changes : List Change) : Type 0 where
  pub work : Work
  pub works : state ≡ Active work
  pub next : IsNextHand b work number changes

-- a Done is backed, and its count is that of the hands taken
pub record IsFairDone (b : BookState) (state : State) (told : Option ℤ) (count : ℕ) : Type 0 where
  pub backed : IsBackedBy b.problem b.settings.gap b.best told
  pub all : count ≡ hands_taken state

-- the condition on a report of a rank in this state: under another ticket than the rank's current
-- one nothing
abbrev pub IsFair : BookState → State → Report → Type 0
IsFair b state Ready = is_deadly (ready_answer state) ≡ false
IsFair b state (Solution ticket x) = Feasible b.problem x
IsFair b state (Hand ticket number changes) =
    ticket_at state ≡ Some ticket → IsFairHand b state number changes
IsFair b state (Reported ticket count floor) = Unit {0}
IsFair b state (Done ticket told count ending) =
    ticket_at state ≡ Some ticket → IsFairDone b state told count
IsFair b state Ended = is_deadly (ended_answer state) ≡ false

abbrev IsHarmless : Heard → Type 0
IsHarmless answer = is_deadly answer ≡ false

by_same : (answer other : Heard) → answer ≡ other → IsHarmless other → IsHarmless answer
by_same answer other same is = subst IsHarmless (sym same) is

solution_fair : (b : BookState) (x : List ℤ) (answer : Heard) → Feasible b.problem x → IsSolutionDue b x answer
    → IsHarmless answer
solution_fair b x Kept fine due = refl
solution_fair b x Stale fine due = absurd due
solution_fair b x Early fine due = absurd due
solution_fair b x (Broken first) fine due = absurd (due.infeasible fine)
solution_fair b x (NotBetter was given) fine due = refl
solution_fair b x InRace fine due = absurd due
solution_fair b x Again fine due = absurd due
solution_fair b x (Gap want got) fine due = absurd due
solution_fair b x (Outside column) fine due = absurd due
solution_fair b x (Unbacked cutoff incumbent) fine due = absurd due
solution_fair b x (Short told was) fine due = absurd due
solution_fair b x Memory fine due = absurd due

-- each column of changes that spell a box below fits
column_fits : (root : List Interval) (told changes : List Change) (column : ℕ) → SpellBelow root told changes
    → ColumnFits root told changes column
column_fits root told changes column below = record {
  valid = λ k there its. below.valid k there;
  narrower = λ there. below.below.each column (omega (arith, there, area_by_width root told));
}

hand_fair : (b : BookState) (work : Work) (number : ℕ) (changes : List Change) (answer : Heard)
    → IsNextHand b work number changes → IsHandDue b work number changes answer → IsHarmless answer
hand_fair b work number changes Kept next due = refl
hand_fair b work number changes Stale next due = absurd due
hand_fair b work number changes Early next due = absurd due
hand_fair b work number changes (Broken first) next due = absurd due
hand_fair b work number changes (NotBetter was given) next due = absurd due
hand_fair b work number changes InRace next due = absurd due
hand_fair b work number changes Again next due = refl
hand_fair b work number changes (Gap want got) next due =
    absurd (omega (arith, due.wanted, due.told, due.above, next.next))
hand_fair b work number changes (Outside column) next due =
    absurd (due.first.outside (column_fits (root_of b.problem) work.node.changes changes column next.below))
hand_fair b work number changes (Unbacked cutoff incumbent) next due = absurd due
hand_fair b work number changes (Short told was) next due = absurd due
hand_fair b work number changes Memory next due = refl

done_fair : (b : BookState) (taken : ℕ) (told : Option ℤ) (count : ℕ) (answer : Heard)
    → IsBackedBy b.problem b.settings.gap b.best told → count ≡ taken → IsDoneDue b taken told count answer
    → IsHarmless answer
done_fair b taken told count Kept backed all due = refl
done_fair b taken told count Stale backed all due = absurd due
done_fair b taken told count Early backed all due = absurd due
done_fair b taken told count (Broken first) backed all due = absurd due
done_fair b taken told count (NotBetter was given) backed all due = absurd due
done_fair b taken told count InRace backed all due = absurd due
done_fair b taken told count Again backed all due = absurd due
done_fair b taken told count (Gap want got) backed all due = absurd due
done_fair b taken told count (Outside column) backed all due = absurd due
done_fair b taken told count (Unbacked cutoff incumbent) backed all due = absurd (due.not_backed backed)
done_fair b taken told count (Short said was) backed all due = absurd (due.differ all)
done_fair b taken told count Memory backed all due = absurd due

-- ---- under the ticket of a rank

-- nothing is asked under another ticket, where the answer is Stale
under_fair : (b : BookState) (state : State) (ticket : Ticket) (report : Report) (answer : Heard)
    → (ticket_at state ≡ Some ticket → IsCurrentDue b state report answer → IsHarmless answer)
    → IsDueUnder b state ticket report answer → IsHarmless answer
under_fair b state ticket report answer fair due = elim (cases_Bool (is_deadly answer)) [
  | inl deadly ↦ absurd (false≢true (sym (by_same answer Stale (due.other (λ same.
      false≢true (sym (fair same (due.current same)) ∙ deadly))) refl) ∙ deadly))
  | inr harmless ↦ harmless
]

solution_current : (b : BookState) (state : State) (ticket : Ticket) (x : List ℤ) (answer : Heard)
    → Feasible b.problem x → IsCurrentDue b state (Solution ticket x) answer → IsHarmless answer
solution_current b Absent ticket x answer fine due = absurd due
solution_current b Idle ticket x answer fine due = absurd due
solution_current b (Racing racer) ticket x answer fine due = solution_fair b x answer fine due
solution_current b (Active work) ticket x answer fine due = solution_fair b x answer fine due
solution_current b (Dead how) ticket x answer fine due = absurd due

hand_current : (b : BookState) (state : State) (ticket : Ticket) (number : ℕ) (changes : List Change)
    (answer : Heard) (fair : IsFairHand b state number changes)
    → IsCurrentDue b state (Hand ticket number changes) answer → IsHarmless answer
hand_current b state ticket number changes answer fair due =
    hand_fair b fair.work number changes answer fair.next
    (subst (λ (s : State). IsCurrentDue b s (Hand ticket number changes) answer) fair.works due)

reported_current : (b : BookState) (state : State) (ticket : Ticket) (count : ℕ) (floor : ℤ) (answer : Heard)
    → IsCurrentDue b state (Reported ticket count floor) answer → IsHarmless answer
reported_current b Absent ticket count floor answer due = absurd due
reported_current b Idle ticket count floor answer due = absurd due
reported_current b (Racing racer) ticket count floor answer due = by_same answer Kept due refl
reported_current b (Active work) ticket count floor answer due = by_same answer Kept due refl
reported_current b (Dead how) ticket count floor answer due = absurd due

done_current : (b : BookState) (state : State) (ticket : Ticket) (told : Option ℤ) (count : ℕ)
    (ending : Ending) (answer : Heard) → IsFairDone b state told count
    → IsCurrentDue b state (Done ticket told count ending) answer → IsHarmless answer
done_current b Absent ticket told count ending answer fair due = absurd due
done_current b Idle ticket told count ending answer fair due = absurd due
done_current b (Racing racer) ticket told count ending answer fair due =
    done_fair b 0 told count answer fair.backed fair.all due
done_current b (Active work) ticket told count ending answer fair due =
    done_fair b (length work.taken) told count answer fair.backed fair.all due
done_current b (Dead how) ticket told count ending answer fair due = absurd due

-- ---- any report

-- a report that is fair loses no rank
pub fair_lives : (b : BookState) (r : ℕ) (report : Report) (answer : Heard) → IsDue b r report answer
    → IsFair b (state_at b.ranks r) report → is_deadly answer ≡ false
fair_lives b r Ready answer due fair = by_same answer (ready_answer (state_at b.ranks r)) due fair
fair_lives b r (Solution ticket x) answer due fair =
    let state = state_at b.ranks r in
    under_fair b state ticket (Solution ticket x) answer
    (λ same current. solution_current b state ticket x answer fair current) due
fair_lives b r (Hand ticket number changes) answer due fair =
    let state = state_at b.ranks r in
    under_fair b state ticket (Hand ticket number changes) answer
    (λ same current. hand_current b state ticket number changes answer (fair same) current) due
fair_lives b r (Reported ticket count floor) answer due fair =
    let state = state_at b.ranks r in
    under_fair b state ticket (Reported ticket count floor) answer
    (λ same current. reported_current b state ticket count floor answer current) due
fair_lives b r (Done ticket told count ending) answer due fair =
    let state = state_at b.ranks r in
    under_fair b state ticket (Done ticket told count ending) answer
    (λ same current. done_current b state ticket told count ending answer (fair same) current) due
fair_lives b r Ended answer due fair = by_same answer (ended_answer (state_at b.ranks r)) due fair
