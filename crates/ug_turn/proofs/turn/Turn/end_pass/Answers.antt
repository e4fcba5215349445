use Rattle.std.proofs.Common.{◌<◌, arith}
use Rattle.ug_turn.proofs.Sharing.{ends}
use Rattle.ug_turn.proofs.turn.Turn.end_pass.Goals as goal

pub join_seat-requires : goal.join_seat-requires
join_seat-requires g c =
    let t = c.args.self.now.table.shared.table_id in
    let three = c.args.self.now.three in
    let words : 0 < t.words = omega (arith, three) in
    let last = c.requires.last in
    let rest = c.requires.rest.rest in
    let place = c.args.last.now.place in
    let other = c.args.seat.place in
    (last.lock_is, c.requires.rest.lock_is, rest.slots, words, ends _ _ _ _ _ _ place.id place.me.0 other.id other.me.0 last.role last.step rest.role rest.waits rest.step)
