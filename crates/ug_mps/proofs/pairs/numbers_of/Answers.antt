use Rattle.ug_mps.proofs.PairsLemmas.{second_short}
use Rattle.ug_mps.proofs.pairs.numbers_of.Goals as goal

pub numbered-requires : goal.numbered-requires
numbered-requires c = c.requires.0

pub numbered-requires-2 : goal.numbered-requires-2
numbered-requires-2 c = second_short c.args.pairs.now.second c.in-Some-second.pair c.in-Some-second.is c.requires.1
