use Rattle.std.proofs.Common.{◌≡◌, replicate}
use Rattle.ug_desk.proofs.tickets.tickets.Given as goal

abbrev pub invariant-loop : goal.invariant-loop
invariant-loop l = l.tickets.items ≡ replicate l.counter l.ticket
