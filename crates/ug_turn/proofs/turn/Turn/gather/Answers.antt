use Rattle.std.proofs.Common.{[], ◌∷◌, append-nil, sym, length}
use Rattle.ug_turn.specs.Seats.{view_of}
use Rattle.ug_turn.proofs.Ends.{gathered_none, gathered_more, popped_get, popped_rest}
use Rattle.ug_turn.proofs.turn.Turn.gather.Goals as goal

pub loop-seat-init : goal.loop-seat-init
loop-seat-init g c = ([], sym (append-nil c.args.seats.items), c.requires.last, gathered_none (view_of c.args.last.now))

pub end_pass-requires-clause-rest : goal.end_pass-requires-clause-rest
end_pass-requires-clause-rest g c =
    let new = c.pop.new.self.items in
    let inv = c.loop-seat.invariant in
    c.requires.rest (length new) c.in-Some.seat (popped_get c.args.seats.items c.loop-seat.seats.items new inv.0 c.in-Some.seat inv.1 c.in-Some.ensures.items)

pub loop-seat-preserved : goal.loop-seat-preserved
loop-seat-preserved g c =
    let new = c.pop.new.self.items in
    let seat = c.in-Some.seat in
    let inv = c.loop-seat.invariant in
    let rest = c.requires.rest (length new) seat (popped_get c.args.seats.items c.loop-seat.seats.items new inv.0 seat inv.1 c.in-Some.ensures.items) in (
      seat ∷ inv.0,
      popped_rest c.args.seats.items c.loop-seat.seats.items new inv.0 seat inv.1 c.in-Some.ensures.items,
      c.end_pass.ensures.last,
      gathered_more (view_of c.args.last.now) (view_of c.loop-seat.last) (view_of c.end_pass.new.last) inv.0 seat inv.3 c.end_pass.ensures.view rest.rest.parts,
    )
