-- What the names and tickets of a ledger report.
use Rattle.std.proofs.Common.{◌<◌, inl, inr, arith}
use Rattle.std.proofs.lemmas.List.Elements.{Contains-get_or}
use Rattle.ug_nodes.specs.declared.name.Ticket.{Ticket}
use Rattle.ug_nodes.specs.Lines.{line_name_at}
use Rattle.ug_nodes.specs.Names.{IsTicketBefore, no_name}
use Rattle.ug_ledger.specs.Ledgers.{IsGiven}
use Rattle.ug_ledger.specs.FactLaws.{NameIsOfOne, NamesCountFromOne, NoneIsBelow, NoneIsCurrent, TicketsCountFromOne}
use Rattle.ug_ledger.proofs.NameLemmas.{one_name}

pub name_of_one : NameIsOfOne
name_of_one root l g a b ha hb e = one_name l.held g.ticketed.named a b ha hb e

-- of two given tickets the latter has a number above 0
number_after : (last t u : Ticket) → IsGiven last t → IsGiven last u → IsTicketBefore t u
    → 0 < u.number
number_after last t u g h (inl less) = absurd (omega (arith, less, g.run, h.run))
number_after last t u g h (inr same) = omega (arith, same.1)

pub names_count : NamesCountFromOne
names_count root l g n h k some short =
    let t = g.ticketed in
    let first = line_name_at n.line 0 in
    let name = line_name_at n.line k in
    number_after l.last first.ticket name.ticket
    (t.given n h first (Contains-get_or n.line 0 no_name (t.named.some n h)))
    (t.given n h name (Contains-get_or n.line k no_name short)) (t.rise n h 0 k some short)

pub tickets_count : TicketsCountFromOne
tickets_count root l g r c h =
    let t = g.ticketed in
    let held = t.held r c h in
    let first = line_name_at c.node.line 0 in
    let there = Contains-get_or c.node.line 0 no_name (t.named.some c.node held) in
    number_after l.last first.ticket c.ticket (t.given c.node held first there) (t.current r c h)
    (t.after r c h first there)

pub none_current : NoneIsCurrent
none_current root l g unused r c h =
    omega (arith, tickets_count root l g r c h, (g.ticketed.current r c h).number, unused)

pub none_below : NoneIsBelow
none_below root l g a ha free b hb up =
    let o = g.worked a b ha hb up.0 up.1 in
    free o.rank o.work o.current o.its_node
