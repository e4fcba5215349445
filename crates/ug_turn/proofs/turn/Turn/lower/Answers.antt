use Rattle.std.proofs.Common.{◌<◌, arith}
use Rattle.ug_turn.proofs.Keeping.{lowers}
use Rattle.ug_turn.proofs.turn.Turn.lower.Goals as goal

pub fetch_min-requires : goal.fetch_min-requires
fetch_min-requires g c =
    let t = c.args.self.now.table.shared.table_id in
    let three = c.args.self.now.three in
    let words : 2 < t.words = omega (arith, three) in
    let place = c.args.seat.now.place in
    (c.requires.lock, words, lowers _ _ _ _ _ _ t.slots place.id c.args.word place.me c.requires.home.at.step_is c.requires.level)
