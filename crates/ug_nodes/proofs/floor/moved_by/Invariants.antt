use Rattle.std.proofs.Common.{◌≡◌, ◌≤◌, ◌+◌, ◌*◌, ◌^◌, ◌+ℤ◌, take, unsigned_abs}
use Rattle.ug_rows.specs.Sums.{least_sum}
use Rattle.ug_nodes.specs.Changes.{area_by}
use Rattle.ug_nodes.proofs.floor.moved_by.Given as goal

abbrev pub invariant-loop-change : goal.invariant-loop-change
invariant-loop-change l = record {
  value : l.total +ℤ least_sum l.terms l.root ≡ l.floor +ℤ least_sum l.terms (area_by l.root (take l.change-index l.changes));
  small : unsigned_abs l.total ≤ unsigned_abs l.floor + l.change-index * (10 ^ 24 * 2 ^ 32);
}
