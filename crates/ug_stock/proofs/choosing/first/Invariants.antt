use Rattle.std.proofs.Common.{take}
use Rattle.ug_rules.specs.Winning.{IsLeaderIfAny}
use Rattle.ug_stock.proofs.choosing.first.Given as goal

abbrev pub invariant-loop-racer : goal.invariant-loop-racer
invariant-loop-racer l = IsLeaderIfAny l.w (take l.racer-index l.racers) l.best
