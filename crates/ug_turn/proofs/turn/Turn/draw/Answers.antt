use Rattle.std.proofs.Common.{◌<◌, arith}
use Rattle.ug_turn.proofs.Keeping.{draws}
use Rattle.ug_turn.proofs.turn.Turn.draw.Goals as goal

pub fetch_add-seat-requires : goal.fetch_add-seat-requires
fetch_add-seat-requires g c =
    let t = c.args.self.now.table.shared.table_id in
    let three = c.args.self.now.three in
    let words : 0 < t.words = omega (arith, three) in
    let rest = c.requires.rest in
    let place = c.args.seat.now.place in
    (c.requires.lock, words, draws _ _ _ _ _ _ t.slots place.id place.me rest.parts rest.waits rest.step)
