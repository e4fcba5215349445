use Rattle.ug_mps.proofs.EndingLemmas.{looked_all}
use Rattle.ug_mps.proofs.ending.see.Goals as goal

pub seen_last-requires : goal.seen_last-requires
seen_last-requires c = looked_all c.args.bytes.now c.loop-at.line c.loop-at.from c.loop-at.invariant.line c.in_default.ensures
