use Rattle.std.proofs.Common.{◌≡◌, ◌≤◌, ◌*◌, take}
use Rattle.ug_stock.proofs.Counts.{places_of}
use Rattle.ug_stock.proofs.notice_places.places.Given as goal

abbrev pub invariant-loop-state : goal.invariant-loop-state
invariant-loop-state l = (l.places ≡ places_of (take l.state-index l.state-items))
    × (l.places ≤ 2 * l.state-index)
