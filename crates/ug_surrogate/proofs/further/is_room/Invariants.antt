use Rattle.std.proofs.Common.{◌≡◌, ◌+◌, ◌-◌, ◌^◌, length, min, take}
use Rattle.ug_surrogate.specs.Complete.{term_count}
use Rattle.ug_surrogate.proofs.further.is_room.Given as goal

abbrev pub invariant-loop-named : goal.invariant-loop-named
invariant-loop-named l =
    l.terms ≡ min ((length l.problem.objective.terms + length l.row.terms) + term_count
    (take l.named-index l.rows)) (2 ^ 64 - 1)
