use Rattle.std.proofs.Common.{◌∙◌, arith}
use Rattle.ug_image.proofs.Fills.{goes_on}
use Rattle.ug_image.proofs.blocks.Blocks.next.Goals as goal

pub loop-n-preserved : goal.loop-n-preserved
loop-n-preserved c =
    let inv = c.loop-n.invariant in
    let e = c.give-given.ensures in
    let on = goes_on c.loop-n.n c.give-given.result c.args.self.now c.loop-n.buffer
    c.give-given.new.buffer c.loop-n.self c.give-given.new.self inv.1 inv.2 inv.3 e.bytes e.rest
    e.enough in
    (omega (arith, e.within, e.same), on.0, on.1, on.2, e.same ∙ inv.4)
