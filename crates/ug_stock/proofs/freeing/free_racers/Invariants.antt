use Rattle.ug_ranks.specs.Looks.{is_racing}
use Rattle.ug_stock.proofs.Loops.{AreIdled}
use Rattle.ug_stock.proofs.freeing.free_racers.Given as goal

abbrev pub invariant-loop-rank : goal.invariant-loop-rank
invariant-loop-rank l = AreIdled is_racing l.initial.ranks l.ranks l.rank
