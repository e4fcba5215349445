use Rattle.std.proofs.Common.{◌<◌, arith}
use Rattle.ug_turn.proofs.Sharing.{notes}
use Rattle.ug_turn.proofs.turn.Turn.split.Goals as goal

pub split_seat-place-requires : goal.split_seat-place-requires
split_seat-place-requires g c =
    let t = c.args.self.now.table.shared.table_id in
    let three = c.args.self.now.three in
    let words : 0 < t.words = omega (arith, three) in
    let place = c.args.seat.now.place in
    (c.requires.lock, words, notes _ _ _ _ _ _ place.id place.me.0 c.requires.rest.step)
