-- What a rank works on, as its ledger has it.
use Rattle.std.proofs.Common.{◌≡◌, ℕ, ◌<◌, length, sym, ◌∙◌, ap, subst}
use Rattle.std.specs.Prelude.{Option, Some, None, IfSome}
use Rattle.std.proofs.lemmas.Option.{none-some, same_Some}
use Rattle.ug_problem.specs.Instances.{Instance, root_of}
use Rattle.ug_nodes.specs.declared.node.Node.{Node}
use Rattle.ug_nodes.specs.Changes.{AreChangesOf}
use Rattle.ug_pool.specs.declared.entry.Entry.{Entry}
use Rattle.ug_ranks.specs.declared.state.State.{State}
use Rattle.ug_ranks.specs.declared.state.State.TheVariants.{Absent, Idle, Racing, Active, Dead}
use Rattle.ug_ranks.specs.States.{state_at}
use Rattle.ug_ledger.specs.Ledgers.{Current, IsCurrent}
use Rattle.ug_rules.specs.State.{BookState, current_of, ledger_of}
use Rattle.ug_ranks.specs.Looks.{taken_at, ticket_at}
use Rattle.ug_rules.specs.Books.{HasItsFloor, IsBook, KeepsItsFloor}
use Rattle.ug_rules.proofs.BookLemmas.{floor_at}
use Rattle.ug_rules.proofs.HeldLemmas.{current_is, is_current}
use Rattle.ug_book.specs.declared.current.CurrentWork.{CurrentWork}
use Rattle.ug_book.specs.Currents.{IsCurrentAt}
use Rattle.ug_base.specs.Tasks.{TaskState}
use Rattle.ug_desk.specs.Takes.{IsAtWork, IsUnderWay, params_at, task_of}
use Rattle.ug_desk.specs.Dones.{IsOfTicket, IsTaskOf}

-- the work that is lent, with what was taken of it
abbrev pub work_at : State → CurrentWork → Current
work_at s w = record { ticket = w.ticket; node = w.node.now; taken = taken_at s }

told_at : (raced : Option Entry) (s : State) (w : CurrentWork) → IsCurrentAt s raced w
    → current_of raced s ≡ Some (work_at s w)
told_at raced Absent w t = absurd t
told_at raced Idle w t = absurd t
told_at None (Racing racer) w t = absurd t
told_at (Some e) (Racing racer) w t =
    let ticket = t.its_ticket in let node = t.its_node in cc
told_at raced (Active work) w t =
    let ticket = t.its_ticket in let node = t.its_node in cc
told_at raced (Dead how) w t = absurd t

-- it is what the rank's ticket is current for
pub current_told : (b : BookState) (r : ℕ) (w : CurrentWork)
    → IsCurrentAt (state_at b.ranks r) b.raced w
    → IsCurrent (ledger_of b) r (work_at (state_at b.ranks r) w)
current_told b r w t =
    is_current b r (work_at (state_at b.ranks r) w) (told_at b.raced (state_at b.ranks r) w t)

-- and that is all it is current for
pub current_only : (b : BookState) (r : ℕ) (w : CurrentWork) (c : Current)
    → IsCurrentAt (state_at b.ranks r) b.raced w → IsCurrent (ledger_of b) r c
    → work_at (state_at b.ranks r) w ≡ c
current_only b r w c t is =
    same_Some (work_at (state_at b.ranks r) w) c
    (sym (told_at b.raced (state_at b.ranks r) w t) ∙ current_is b r c is)

params_told : (raced : Option Entry) (s : State) (w : CurrentWork) → IsCurrentAt s raced w
    → params_at s ≡ Some w.params
params_told raced Absent w t = absurd t
params_told raced Idle w t = absurd t
params_told None (Racing racer) w t = absurd t
params_told (Some e) (Racing racer) w t = let same = t.its_params in cc
params_told raced (Active work) w t = let same = t.its_params in cc
params_told raced (Dead how) w t = absurd t

-- a task that is made of it is a new one of the rank's ticket
pub at_work : (b : BookState) (r : ℕ) (w : CurrentWork) (task : TaskState) → IsUnderWay b
    → IsCurrentAt (state_at b.ranks r) b.raced w
    → task ≡ task_of b w.ticket w.params w.node.now → IsAtWork b r task
at_work b r w task going t is =
    let params = ap (λ (k : TaskState). k.params) is in
    record {
      going = going;
      given = record {
        work = work_at (state_at b.ranks r) w;
        current = current_told b r w t;
        params = params_told b.raced (state_at b.ranks r) w t ∙ ap Some (sym params);
        task_is = is ∙ ap (λ k. task_of b w.ticket k w.node.now) (sym params);
      };
    }

changes_at : (p : Instance) (raced : Option Entry) (s : State) (w : CurrentWork)
    → KeepsItsFloor p s → IfSome raced (HasItsFloor p) → IsCurrentAt s raced w
    → AreChangesOf (root_of p) w.node.now.changes
changes_at p raced Absent w h k t = absurd t
changes_at p raced Idle w h k t = absurd t
changes_at p None (Racing racer) w h k t = absurd t
changes_at p (Some e) (Racing racer) w h k t =
    subst (λ (n : Node). AreChangesOf (root_of p) n.changes) (sym t.its_node) k.changes
changes_at p raced (Active work) w h k t =
    subst (λ (n : Node). AreChangesOf (root_of p) n.changes) (sym t.its_node) h.changes
changes_at p raced (Dead how) w h k t = absurd t

-- its node has a box
pub current_changes : (b : BookState) (r : ℕ) (w : CurrentWork) → IsBook b → r < length b.ranks
    → IsCurrentAt (state_at b.ranks r) b.raced w
    → AreChangesOf (root_of b.problem) w.node.now.changes
current_changes b r w book there t =
    changes_at b.problem b.raced (state_at b.ranks r) w (floor_at b r there book.floors)
    book.floors.raced t

-- a task of it is one of the rank's ticket, and no other is
pub of_ticket : (b : BookState) (r : ℕ) (w : CurrentWork) (task : TaskState)
    → IsCurrentAt (state_at b.ranks r) b.raced w
    → IsTaskOf b.problem w.ticket w.node.now task → IsOfTicket b r task
of_ticket b r w task t its = record {
  work = work_at (state_at b.ranks r) w;
  current = current_told b r w t;
  its = its;
}

pub ticket_of : (b : BookState) (r : ℕ) (w : CurrentWork) (task : TaskState)
    → IsCurrentAt (state_at b.ranks r) b.raced w → IsOfTicket b r task
    → IsTaskOf b.problem w.ticket w.node.now task
ticket_of b r w task t of =
    subst (λ (c : Current). IsTaskOf b.problem c.ticket c.node task)
    (sym (current_only b r w of.work t of.current)) of.its

none_at : (raced : Option Entry) (s : State) (c : Current) → ticket_at s ≡ None
    → current_of raced s ≡ Some c → ⊥
none_at raced Absent c none is = none-some c is
none_at raced Idle c none is = none-some c is
none_at raced (Racing racer) c none is = none-some racer.ticket (sym none)
none_at raced (Active work) c none is = none-some work.ticket (sym none)
none_at raced (Dead how) c none is = none-some c is

-- without a ticket none is
pub of_none : (b : BookState) (r : ℕ) (task : TaskState) → ticket_at (state_at b.ranks r) ≡ None
    → IsOfTicket b r task → ⊥
of_none b r task none of =
    none_at b.raced (state_at b.ranks r) of.work none (current_is b r of.work of.current)
