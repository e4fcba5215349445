-- The orders of tickets and of names are total: of two, one is before the other or they are the
-- same, and never both; and what is before one that is before a third is before the third.
use Rattle.std.proofs.Common.{◌≡◌, ◌⊎◌, ◌<◌, inl, inr, refl, sym, ◌∙◌, subst, arith}
use Rattle.std.specs.Cmp.{IsTotalOrder}
use Rattle.std.proofs.lemmas.Bool.{cases_order}
use Rattle.std.proofs.lemmas.Cmp.{then_total, on_total, nat_cmp_total}
use Rattle.ug_nodes.specs.declared.name.Ticket.{Ticket}
use Rattle.ug_nodes.specs.declared.name.Name.{Name}
use Rattle.ug_nodes.specs.Names.{IsTicketBefore, IsNameBefore, ticket_cmp, name_cmp}

-- two tickets with the same numbers are the same
pub same_ticket : (a b : Ticket) → a.run ≡ b.run → a.number ≡ b.number → a ≡ b
same_ticket a b e h = subst (λ n. a ≡ record { run = b.run; number = n }) h (subst (λ r. a ≡ record { run = r; number = a.number }) e refl)

-- and two names with the same ticket and hand number
pub same_name : (a b : Name) → a.ticket ≡ b.ticket → a.hand ≡ b.hand → a ≡ b
same_name a b e h = subst (λ n. a ≡ record { ticket = b.ticket; hand = n }) h (subst (λ t. a ≡ record { ticket = t; hand = a.hand }) e refl)

pub ticket_not_itself : (a : Ticket) → IsTicketBefore a a → ⊥
ticket_not_itself a (inl h) = omega (arith, h)
ticket_not_itself a (inr h) = omega (arith, h.1)

pub ticket_along : (a b c : Ticket) → IsTicketBefore a b → IsTicketBefore b c → IsTicketBefore a c
ticket_along a b c (inl h) (inl k) = inl (omega (arith, h, k))
ticket_along a b c (inl h) (inr k) = inl (omega (arith, h, k.0))
ticket_along a b c (inr h) (inl k) = inl (omega (arith, h.0, k))
ticket_along a b c (inr h) (inr k) = inr (h.0 ∙ k.0, omega (arith, h.1, k.1))

pub ticket_one_way : (a b : Ticket) → IsTicketBefore a b → IsTicketBefore b a → ⊥
ticket_one_way a b h k = ticket_not_itself a (ticket_along a b a h k)

-- by the orders of the two numbers
either_ticket : (a b : Ticket) → (a.run ≡ b.run) ⊎ ((a.run < b.run) ⊎ (b.run < a.run))
    → (a.number ≡ b.number) ⊎ ((a.number < b.number) ⊎ (b.number < a.number)) → (a ≡ b) ⊎ (IsTicketBefore a b ⊎ IsTicketBefore b a)
either_ticket a b (inr (inl h)) n = inr (inl (inl h))
either_ticket a b (inr (inr h)) n = inr (inr (inl h))
either_ticket a b (inl e) (inl h) = inl (same_ticket a b e h)
either_ticket a b (inl e) (inr (inl h)) = inr (inl (inr (e, h)))
either_ticket a b (inl e) (inr (inr h)) = inr (inr (inr (sym e, h)))

pub ticket_either : (a b : Ticket) → (a ≡ b) ⊎ (IsTicketBefore a b ⊎ IsTicketBefore b a)
ticket_either a b = either_ticket a b (cases_order a.run b.run) (cases_order a.number b.number)

pub name_not_itself : (a : Name) → IsNameBefore a a → ⊥
name_not_itself a (inl h) = ticket_not_itself a.ticket h
name_not_itself a (inr h) = omega (arith, h.1)

pub name_along : (a b c : Name) → IsNameBefore a b → IsNameBefore b c → IsNameBefore a c
name_along a b c (inl h) (inl k) = inl (ticket_along a.ticket b.ticket c.ticket h k)
name_along a b c (inl h) (inr k) = inl (subst (λ t. IsTicketBefore a.ticket t) k.0 h)
name_along a b c (inr h) (inl k) = inl (subst (λ t. IsTicketBefore t c.ticket) (sym h.0) k)
name_along a b c (inr h) (inr k) = inr (h.0 ∙ k.0, omega (arith, h.1, k.1))

pub name_one_way : (a b : Name) → IsNameBefore a b → IsNameBefore b a → ⊥
name_one_way a b h k = name_not_itself a (name_along a b a h k)

-- by the orders of the tickets and of the hand numbers
either_name : (a b : Name) → (a.ticket ≡ b.ticket) ⊎ (IsTicketBefore a.ticket b.ticket ⊎ IsTicketBefore b.ticket a.ticket)
    → (a.hand ≡ b.hand) ⊎ ((a.hand < b.hand) ⊎ (b.hand < a.hand)) → (a ≡ b) ⊎ (IsNameBefore a b ⊎ IsNameBefore b a)
either_name a b (inr (inl h)) n = inr (inl (inl h))
either_name a b (inr (inr h)) n = inr (inr (inl h))
either_name a b (inl e) (inl h) = inl (same_name a b e h)
either_name a b (inl e) (inr (inl h)) = inr (inl (inr (e, h)))
either_name a b (inl e) (inr (inr h)) = inr (inr (inr (sym e, h)))

pub name_either : (a b : Name) → (a ≡ b) ⊎ (IsNameBefore a b ⊎ IsNameBefore b a)
name_either a b = either_name a b (ticket_either a.ticket b.ticket) (cases_order a.hand b.hand)

-- the comparisons are total orders
pub ticket_cmp_total : IsTotalOrder ticket_cmp
ticket_cmp_total = then_total (on_total (λ (t : Ticket). t.run) nat_cmp_total) (on_total (λ (t : Ticket). t.number) nat_cmp_total)

pub name_cmp_total : IsTotalOrder name_cmp
name_cmp_total = then_total (on_total (λ (n : Name). n.ticket) ticket_cmp_total) (on_total (λ (n : Name). n.hand) nat_cmp_total)
