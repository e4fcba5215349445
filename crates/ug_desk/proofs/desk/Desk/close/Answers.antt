use Rattle.ug_desk.specs.Passes.{lock_of_desk}
use Rattle.ug_desk.proofs.Seating.{closed_so, seats_rest}
use Rattle.ug_desk.proofs.desk.Desk.close.Goals as goal

pub close-locked-requires-clause-rest : goal.close-locked-requires-clause-rest
close-locked-requires-clause-rest c =
    seats_rest (lock_of_desk c.args.self) c.args.passes.items c.seats-seats.result.items c.seats-seats.ensures
    c.requires.here

pub returns-clause-ok : goal.returns-clause-ok
returns-clause-ok c =
    closed_so _ c.args.passes.items c.seats-seats.result.items c.close-locked.result c.into_inner.result
    c.seats-seats.ensures c.close-locked.ensures c.requires.all c.into_inner.ensures
