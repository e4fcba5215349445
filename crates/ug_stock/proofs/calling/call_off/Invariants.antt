use Rattle.std.proofs.Common.{◌≡◌, ◌+◌, ◌++◌, take, length}
use Rattle.ug_rules.specs.Deaths.{stops_below, works_below}
use Rattle.ug_stock.proofs.Loops.{AreIdled}
use Rattle.ug_stock.proofs.calling.call_off.Given as goal

abbrev pub invariant-loop-rank : goal.invariant-loop-rank
invariant-loop-rank l = AreIdled (works_below l.line) l.initial.ranks l.ranks l.rank
    × (l.orders.orders ≡ l.initial.orders.orders ++ stops_below l.line
    (take l.rank l.initial.ranks))
    × (l.orders.spare + length (stops_below l.line (take l.rank l.initial.ranks))
    ≡ l.initial.orders.spare)
