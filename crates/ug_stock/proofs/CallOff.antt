-- Whether a rank works below a line's node, and its Stop.
use Rattle.std.proofs.Common.{◌≡◌, ℕ, Bool, true, false, if◌then◌else◌, List, [], ◌∷◌, Some, None, refl, sym, ap, ◌∙◌, set, length, ◌<◌}
use Rattle.std.proofs.lemmas.List.{set-get_or}
use Rattle.ug_nodes.specs.declared.name.Ticket.{Ticket}
use Rattle.ug_nodes.specs.declared.name.Name.{Name}
use Rattle.ug_nodes.specs.Lines.{is_ancestor}
use Rattle.ug_frames.specs.declared.order.Order.TheVariants.{Stop}
use Rattle.ug_ranks.specs.declared.state.Off.TheVariants.{Died}
use Rattle.ug_ranks.specs.declared.state.State.{State}
use Rattle.ug_ranks.specs.declared.state.State.TheVariants.{Absent, Idle, Racing, Active, Dead}
use Rattle.ug_ranks.specs.States.{state_at}
use Rattle.ug_rules.specs.declared.told.Told.{Told}
use Rattle.ug_rules.specs.Deaths.{stop_at, works_below}
use Rattle.ug_ranks.specs.Looks.{ticket_below}

abbrev stops_if : Bool → Ticket → ℕ → List Told
stops_if below ticket r = (if below then record { rank = r; order = Stop ticket } ∷ [] else [])

none_by : (below : Bool) (ticket : Ticket) (r : ℕ) → (if below then Some ticket else None) ≡ None
    → (below ≡ false) × (stops_if below ticket r ≡ [])
none_by true ticket r e = absurd (cc)
none_by false ticket r e = (refl, refl)

-- if there is no such ticket the rank does not work below, and is sent nothing
pub none_below : (line : List Name) (r : ℕ) (state : State) → ticket_below line state ≡ None
    → (works_below line state ≡ false) × (stop_at line r state ≡ [])
none_below line r Absent e = (refl, refl)
none_below line r Idle e = (refl, refl)
none_below line r (Racing racer) e = (refl, refl)
none_below line r (Active work) e = none_by (is_ancestor line work.node.line) work.ticket r e
none_below line r (Dead how) e = (refl, refl)

some_by : (below : Bool) (own ticket : Ticket) (r : ℕ) → (if below then Some own else None)
    ≡ Some ticket
    → (below ≡ true) × (stops_if below own r ≡ record { rank = r; order = Stop ticket } ∷ [])
some_by true own ticket r e =
    (refl, let same : own ≡ ticket = cc in ap (λ (t : Ticket). stops_if true t r) same)
some_by false own ticket r e = absurd (cc)

-- and if there is one, it does, and is asked to stop
pub some_below : (line : List Name) (r : ℕ) (state : State) (ticket : Ticket)
    → ticket_below line state ≡ Some ticket
    → (works_below line state ≡ true)
    × (stop_at line r state ≡ record { rank = r; order = Stop ticket } ∷ [])
some_below line r Absent ticket e = absurd (cc)
some_below line r Idle ticket e = absurd (cc)
some_below line r (Racing racer) ticket e = absurd (cc)
some_below line r (Active work) ticket e = some_by
    (is_ancestor line work.node.line) work.ticket ticket r e
some_below line r (Dead how) ticket e = absurd (cc)

-- a choice that is the state itself writes nothing
pub kept_state : (line : List Name) (states : List State) (r : ℕ) → r < length states
    → works_below line (state_at states r) ≡ false
    → states ≡ set states r
    (if works_below line (state_at states r) then Idle else state_at states r)
kept_state line states r there e =
    let same : (if works_below line (state_at states r) then Idle else state_at states r)
    ≡ state_at states r =
    ap (λ (b : Bool). if b then Idle else state_at states r) e in
    sym (ap (λ (state : State). set states r state) same ∙ set-get_or states r (Dead Died))
