-- What orders change of what a worker at a link keeps.
use Rattle.std.specs.Prelude.{◌≡◌, ◌≢◌, ◌⊎◌, ℕ, false}
use Rattle.ug_nodes.specs.declared.name.Ticket.{Ticket}
use Rattle.ug_serve.specs.declared.kept.Kept.{Kept}

-- an order under this ticket changes it where its task has the ticket
abbrev pub IsChanged : Kept → Ticket → Kept → Kept → Type 0
IsChanged old ticket changed new =
    ((ticket ≡ old.ticket) × (new ≡ changed)) ⊎ ((ticket ≢ old.ticket) × (new ≡ old))

-- this many boxes are asked for
abbrev pub IsAsked : Kept → Ticket → ℕ → Kept → Type 0
IsAsked old ticket count new = IsChanged old ticket (record old { asked = count }) new

-- the race is won
abbrev pub IsWon : Kept → Ticket → Kept → Type 0
IsWon old ticket new = IsChanged old ticket (record old { racing = false }) new
