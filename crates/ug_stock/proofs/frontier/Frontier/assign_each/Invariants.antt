use Rattle.ug_stock.proofs.Progress.{Progress}
use Rattle.ug_stock.proofs.frontier.Frontier.assign_each.Given as goal

abbrev pub invariant-loop-rank : goal.invariant-loop-rank
invariant-loop-rank l = Progress l.terms l.initial.self l.self l.steps l.rank
