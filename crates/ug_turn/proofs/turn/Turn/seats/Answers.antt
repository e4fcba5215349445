use Rattle.std.proofs.Common.{◌≡◌, ◌+◌, [], ◌∷◌, ◌++◌, rules, vec_len}
use Rattle.ug_turn.proofs.Making.{seats_more}
use Rattle.ug_turn.proofs.turn.Turn.seats.Goals as goal

pub loop-preserved : goal.loop-preserved
loop-preserved g c =
    let inv = c.loop.invariant in
    let count : vec_len c.push.new.self ≡ c.loop.counter + 1 = search rules in
    let items : c.push.new.self.items ≡ c.loop.seats.items ++ c.pass-seat.result ∷ [] = search rules in
    let made = seats_more c.args.self.now.table.shared.table_id c.args.passes c.loop.counter c.args.maker.me.0 c.loop.maker c.pass-seat.new.maker c.loop.seats.items c.pass-seat.result c.push.new.self.items
    c.requires.making inv.1 inv.2 inv.3 c.pass-seat.ensures.maker c.pass-seat.ensures.seat (search rules) items in
    (count, made.0, made.1, made.2)
