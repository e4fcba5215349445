use Rattle.std.proofs.Common.{◌≡◌, ◌+◌, ◌++◌, take, length}
use Rattle.ug_rules.specs.Deciding.{loser_stops}
use Rattle.ug_stock.proofs.Racers.{AreLosersFreed}
use Rattle.ug_stock.proofs.ending.crown.Given as goal

abbrev pub invariant-loop-other : goal.invariant-loop-other
invariant-loop-other l = AreLosersFreed l.rank l.initial.ranks l.ranks l.other
    × (l.orders.orders ≡ l.initial.orders.orders
    ++ loser_stops l.rank (take l.other l.initial.ranks))
    × (l.orders.spare + length (loser_stops l.rank (take l.other l.initial.ranks))
    ≡ l.initial.orders.spare)
