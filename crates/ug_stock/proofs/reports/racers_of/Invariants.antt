use Rattle.std.proofs.Common.{◌≡◌, take}
use Rattle.ug_rules.specs.Ranks.{racers_in}
use Rattle.ug_stock.proofs.reports.racers_of.Given as goal

abbrev pub invariant-loop-rank : goal.invariant-loop-rank
invariant-loop-rank l = l.racers.items ≡ racers_in (take l.rank l.ranks)
