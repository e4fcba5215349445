use Rattle.ug_propagate.proofs.Bits.{bit_cleared}
use Rattle.ug_propagate.proofs.queued.dequeue.Goals as goal

pub returns : goal.returns
returns c = bit_cleared c.args.words.now c.args.r c.requires
