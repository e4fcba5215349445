use Rattle.std.proofs.Common.{◌<◌, arith}
use Rattle.ug_turn.proofs.Keeping.{sees}
use Rattle.ug_turn.proofs.turn.Turn.sees_turn.Goals as goal

pub load-requires : goal.load-requires
load-requires g c =
    let t = c.args.self.now.table.shared.table_id in
    let three = c.args.self.now.three in
    let words : 1 < t.words = omega (arith, three) in
    let at = c.requires.waiting.at in
    let place = c.args.seat.now.place in
    (c.requires.lock, words, sees _ _ _ _ _ _ t.slots place.id place.me at.waits at.step_is)
