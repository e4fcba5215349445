-- A desk as it begins, with no call yet.
use Rattle.std.proofs.Common.{◌≡◌, List, [], length, refl, sym, ap, ◌∙◌, subst}
use Rattle.std.specs.Prelude.{replicate}
use Rattle.std.proofs.lemmas.List.{length-replicate}
use Rattle.ug_nodes.specs.declared.name.Ticket.{Ticket}
use Rattle.ug_ranks.specs.declared.state.State.TheVariants.{Absent}
use Rattle.ug_rules.specs.Books.{IsSoundBook}
use Rattle.ug_rules.specs.State.{BookState}
use Rattle.ug_book.specs.Starts.{first_ticket}
use Rattle.ug_book.specs.Views.{IsSameRun}
use Rattle.ug_book.proofs.Starts.{start_is_sound}
use Rattle.ug_book.specs.declared.opening.Opening.{Opening}
use Rattle.ug_book.specs.Openings.{opening_book}
use Rattle.ug_desk.specs.DeskStates.{DeskState}
use Rattle.ug_desk.specs.Entries.{IsLocked}

abbrev with_tickets : BookState → List Ticket → DeskState
with_tickets b tickets = record { book = b; tickets = tickets }

-- with no call yet
pub begun : (o : Opening) (b : BookState) (tickets : List Ticket) → opening_book o ≡ b
    → tickets ≡ replicate o.settings.solvers (first_ticket o.run)
    → IsLocked (record { opening = o; now = record { book = b; tickets = tickets }; count = 0 })
begun o b tickets is all =
    let wide : length (opening_book o).ranks ≡ o.settings.solvers =
    length-replicate o.settings.solvers Absent in
    record {
      history = [];
      replayed = record {
        replays = ap (λ (k : BookState). with_tickets k tickets) (sym is)
            ∙ ap (λ (ts : List Ticket). with_tickets (opening_book o) ts) all;
        counted = refl;
      };
      same = subst (λ k. IsSameRun (opening_book o) k) is
          (record { problem = refl; run = refl; settings = refl; wide = refl });
      sound = λ covered. subst IsSoundBook is
          ((start_is_sound o.problem o.run o.best o.boxes o.settings).1 covered);
      wide = ap (λ (ts : List Ticket). length ts) all
          ∙ (length-replicate o.settings.solvers (first_ticket o.run)
          ∙ (sym wide ∙ ap (λ (k : BookState). length k.ranks) is));
    }
