-- The state of a desk.
use Rattle.std.specs.Prelude.{◌≡◌, ℕ, List, replicate, slice_index_or}
use Rattle.ug_nodes.specs.declared.name.Ticket.{Ticket}
use Rattle.ug_rules.specs.State.{BookState}
use Rattle.ug_book.specs.Starts.{first_ticket}
use Rattle.ug_book.specs.declared.opening.Opening.{Opening}
use Rattle.ug_book.specs.Openings.{opening_book}

-- the state at a moment: the book, and the ticket of the last work of each pass
pub record DeskState : Type 0 where
  pub book : BookState
  pub tickets : List Ticket

-- at the beginning no pass has work; its ticket is that of the starting nodes, which no rank has
abbrev pub opening_state : Opening → DeskState
opening_state o = record {
  book = opening_book o;
  tickets = replicate o.settings.solvers (first_ticket o.run);
}

-- the ticket of a pass that is not there
abbrev pub no_ticket : Ticket
no_ticket = record { run = 0; number = 0 }

-- the ticket of the last work of pass r
abbrev pub own_ticket : DeskState → ℕ → Ticket
own_ticket s r = slice_index_or s.tickets r no_ticket

-- the book alone changed, in this way
pub record OfBook (Moved : BookState → BookState → Type 0) (old new : DeskState) : Type 0 where
  pub book : Moved old.book new.book
  pub tickets : new.tickets ≡ old.tickets
