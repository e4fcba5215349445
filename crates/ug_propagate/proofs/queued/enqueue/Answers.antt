use Rattle.ug_propagate.proofs.Bits.{bit_set}
use Rattle.ug_propagate.proofs.queued.enqueue.Goals as goal

pub returns : goal.returns
returns c = bit_set c.args.words.now c.args.r c.requires
