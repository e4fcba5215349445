use Rattle.std.proofs.Common.{◌≡◌, None}
use Rattle.std.specs.Bool.{OnFalse}
use Rattle.ug_surrogate.specs.Stronger.{StandFor}
use Rattle.ug_surrogate.proofs.Complete.{AreTightenedBelow}
use Rattle.ug_surrogate.proofs.in_place.tighten_all.Given as goal

abbrev pub invariant-loop-r : goal.invariant-loop-r
invariant-loop-r l = record {
  stand : StandFor l.problem l.area None l.rows.items;
  tightened : AreTightenedBelow l.problem l.area l.rows.items l.r;
  same : OnFalse l.is_changed (l.rows.items ≡ l.problem.rows);
}
