use Rattle.ug_stock.proofs.Announced.{AreTold}
use Rattle.ug_stock.proofs.announcing.tell_joined.Given as goal

abbrev pub invariant-loop-rank : goal.invariant-loop-rank
invariant-loop-rank l = AreTold l.cutoff l.ranks l.initial.orders l.orders l.rank
