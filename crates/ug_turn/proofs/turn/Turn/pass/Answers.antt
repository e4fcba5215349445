use Rattle.std.proofs.Common.{◌<◌, arith}
use Rattle.ug_turn.proofs.Sharing.{makes}
use Rattle.ug_turn.proofs.turn.Turn.pass.Goals as goal

pub split_seat-place-requires : goal.split_seat-place-requires
split_seat-place-requires g c =
    let t = c.args.self.now.table.shared.table_id in
    let three = c.args.self.now.three in
    let words : 0 < t.words = omega (arith, three) in
    let making = c.requires.making in
    let maker = c.args.maker.now in
    (c.requires.lock, words, makes _ _ _ _ _ _ maker.id maker.me.0 making.role making.waits making.step c.requires.some c.requires.below making.mine making.ended)
