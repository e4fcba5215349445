use Rattle.std.proofs.Common.{ap, subst}
use Rattle.ug_turn.specs.Locks.{id_of}
use Rattle.ug_turn.specs.Seats.{AreNewSeats}
use Rattle.ug_turn.proofs.turn.Turn.new.Goals as goal

pub returns-clause-each : goal.returns-clause-each
returns-clause-each g c =
    subst (λ v. AreNewSeats (id_of c.in_ok-turn.turn) v c.in_ok-seats.seats.items) (ap (λ m. m.0) c.in_ok-turn.ensures.maker) c.in_ok-seats.ensures.each
