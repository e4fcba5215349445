use Rattle.std.proofs.Common.{◌≡◌, ◌≤◌, ◌*◌, ◌^◌, take, unsigned_abs}
use Rattle.ug_surrogate.specs.Columns.{weighed}
use Rattle.ug_surrogate.proofs.columns.weigh.Given as goal

abbrev pub invariant-loop-entry : goal.invariant-loop-entry
invariant-loop-entry l = record {
  value : l.total ≡ weighed l.rows l.m (take l.entry-index l.entries);
  small : unsigned_abs l.total ≤ l.entry-index * (10 ^ 24 * 2 ^ 33);
}
