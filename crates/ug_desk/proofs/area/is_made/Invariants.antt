use Rattle.std.proofs.Common.{◌≡◌, ℕ, ◌<◌}
use Rattle.ug_rows.specs.Boxes.{interval_at}
use Rattle.ug_nodes.specs.Changes.{area_by}
use Rattle.ug_desk.specs.Areas.{AreBefore}
use Rattle.ug_desk.proofs.area.is_made.Given as goal

abbrev pub invariant-loop-j : goal.invariant-loop-j
invariant-loop-j l = record {
  before : AreBefore l.changes l.j l.before;
  same : (k : ℕ) → k < l.j → interval_at l.area k ≡ interval_at (area_by l.root l.changes) k;
}
