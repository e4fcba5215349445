use Rattle.std.proofs.Common.{◌<◌, arith}
use Rattle.ug_turn.proofs.Keeping.{spins}
use Rattle.ug_turn.proofs.turn.Turn.cutoff.Goals as goal

pub load-requires : goal.load-requires
load-requires g c =
    let t = c.args.self.now.table.shared.table_id in
    let three = c.args.self.now.three in
    let words : 2 < t.words = omega (arith, three) in
    let place = c.args.seat.now.place in
    (c.requires.lock, words, spins _ _ _ _ _ _ t.slots place.id place.me c.requires.rest.step)
