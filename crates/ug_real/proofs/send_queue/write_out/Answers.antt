use Rattle.std.proofs.Common.{arith}
use Rattle.std.proofs.lemmas.Grind.{common_steps}
use Rattle.ug_real.proofs.Writing.{written_more}
use Rattle.ug_real.proofs.send_queue.write_out.Goals as goal

pub loop-preserved : goal.loop-preserved
loop-preserved g c =
    let (within, written) = c.loop.invariant in
    (grind (arith, common_steps), written_more _ _ _ _ _ _ written c.in-Ok.ensures.written)
