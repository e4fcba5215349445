use Rattle.std.proofs.Common.{◌≡◌, drop, false}
use Rattle.ug_propagate.specs.Rounds.{over_rows}
use Rattle.ug_propagate.specs.declared.tight.Tight.TheVariants.{Kept}
use Rattle.ug_propagate.proofs.rounds.tighten_rows.Given as goal

abbrev pub invariant-loop-r : goal.invariant-loop-r
invariant-loop-r l = record {
  so_far : over_rows l.r (drop l.r l.rows) (Kept l.area) ≡ over_rows 0 l.rows (Kept l.fn.area);
  still : l.changed ≡ false → l.area ≡ l.fn.area;
}
