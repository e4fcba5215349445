-- A report under a ticket: it is judged where that is the rank's current one, and else stale.
use Rattle.std.proofs.Common.{◌≡◌, ℕ, ℤ, List, refl}
use Rattle.std.specs.Prelude.{Some}
use Rattle.std.proofs.lemmas.Option.{none-some}
use Rattle.ug_nodes.specs.declared.name.Ticket.{Ticket}
use Rattle.ug_frames.specs.declared.report.Report.{Report}
use Rattle.ug_frames.specs.declared.report.Report.TheVariants.{Solution, State as Reported}
use Rattle.ug_ranks.specs.declared.state.State.{State}
use Rattle.ug_ranks.specs.declared.state.State.TheVariants.{Absent, Idle, Racing, Active, Dead}
use Rattle.ug_rules.specs.declared.heard.Heard.{Heard}
use Rattle.ug_rules.specs.declared.heard.Heard.TheVariants.{Stale, Kept}
use Rattle.ug_rules.specs.State.{BookState}
use Rattle.ug_ranks.specs.Looks.{ticket_at}
use Rattle.ug_rules.specs.Hearing.{IsCurrentDue, IsDueUnder, IsSolutionDue}

pub due_now : (b : BookState) (s : State) (ticket : Ticket) (report : Report) (answer : Heard)
    → ticket_at s ≡ Some ticket → IsCurrentDue b s report answer
    → IsDueUnder b s ticket report answer
due_now b s ticket report answer e due =
    record { current = λ same. due; other = λ differs. absurd (differs e) }

pub due_stale : (b : BookState) (s : State) (ticket : Ticket) (report : Report) (answer : Heard)
    → (ticket_at s ≡ Some ticket → ⊥) → answer ≡ Stale → IsDueUnder b s ticket report answer
due_stale b s ticket report answer differs e =
    record { current = λ same. absurd (differs same); other = λ ne. e }

-- a point is judged alike whether the rank races or works
pub solution_now : (b : BookState) (s : State) (ticket : Ticket) (x : List ℤ) (answer : Heard)
    → ticket_at s ≡ Some ticket → IsSolutionDue b x answer
    → IsCurrentDue b s (Solution ticket x) answer
solution_now b (Racing racer) ticket x answer e due = due
solution_now b (Active work) ticket x answer e due = due
solution_now b Absent ticket x answer e due = absurd (none-some ticket e)
solution_now b Idle ticket x answer e due = absurd (none-some ticket e)
solution_now b (Dead how) ticket x answer e due = absurd (none-some ticket e)

-- and so is what is reported of open nodes
pub reported_now : (b : BookState) (s : State) (ticket : Ticket) (count : ℕ) (floor : ℤ)
    → ticket_at s ≡ Some ticket → IsCurrentDue b s (Reported ticket count floor) Kept
reported_now b (Racing racer) ticket count floor e = refl
reported_now b (Active work) ticket count floor e = refl
reported_now b Absent ticket count floor e = absurd (none-some ticket e)
reported_now b Idle ticket count floor e = absurd (none-some ticket e)
reported_now b (Dead how) ticket count floor e = absurd (none-some ticket e)
