use Rattle.ug_stock.proofs.Joining.{Joining}
use Rattle.ug_stock.proofs.frontier.Frontier.race_all.Given as goal

abbrev pub invariant-loop-rank : goal.invariant-loop-rank
invariant-loop-rank l =
    Joining l.terms l.initial.boxes.items l.boxes.items l.initial.self l.self l.rank
