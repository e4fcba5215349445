use Rattle.std.proofs.Common.{◌-◌, ◌≤◌, length}
use Rattle.ug_mps.specs.Ending.{IsLineAt}
use Rattle.ug_mps.proofs.ending.see.Given as goal

abbrev pub invariant-loop-at : goal.invariant-loop-at
invariant-loop-at l = record {
  line : IsLineAt l.bytes l.line l.from;
  within : l.from ≤ length l.bytes;
}

abbrev pub decreases-loop-at : goal.decreases-loop-at
decreases-loop-at l = length l.bytes - l.from
