use Rattle.std.proofs.Common.{◌≡◌, ◌≤◌, ◌+◌, take, length}
use Rattle.ug_rules.specs.State.{BookState, nodes_of}
use Rattle.ug_rules.specs.Deciding.{stopped_collecting}
use Rattle.ug_stock.specs.Books.{with_told}
use Rattle.ug_stock.proofs.asking.ask_no_more.Given as goal

abbrev pub invariant-loop-rank : goal.invariant-loop-rank
invariant-loop-rank l =
    ((b : BookState) → with_told b l.ranks l.orders.orders
    ≡ stopped_collecting (take l.rank-index l.told)
    (with_told b l.initial.ranks l.initial.orders.orders))
    × (l.initial.orders.spare ≤ l.orders.spare + l.rank-index)
    × (nodes_of l.ranks ≡ nodes_of l.initial.ranks)
    × (length l.ranks ≡ length l.initial.ranks)
