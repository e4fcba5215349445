use Rattle.std.proofs.Common.{◌<◌, arith}
use Rattle.ug_turn.proofs.Keeping.{passes_on}
use Rattle.ug_turn.proofs.turn.Turn.pass_on.Goals as goal

pub fetch_add-requires : goal.fetch_add-requires
fetch_add-requires g c =
    let t = c.args.self.now.table.shared.table_id in
    let three = c.args.self.now.three in
    let words : 1 < t.words = omega (arith, three) in
    let at = c.requires.home.at in
    let place = c.args.seat.now.place in
    (c.requires.lock, words, passes_on _ _ _ _ _ _ t.slots place.id place.me at.parts at.waits at.step_is)
