use Rattle.std.proofs.Common.{◌≡◌, replicate, take}
use Rattle.ug_propagate.proofs.queued.fill.Given as goal

abbrev pub invariant-loop-at : goal.invariant-loop-at
invariant-loop-at l = take l.at l.words ≡ replicate l.at l.word
