use Rattle.std.proofs.Common.{◌≡◌, ◌≤◌, ◌*◌, ◌^◌, take, unsigned_abs}
use Rattle.ug_rows.specs.Rows.{sum_at}
use Rattle.ug_rows.proofs.sums.sum.Given as goal

abbrev pub invariant-loop-term : goal.invariant-loop-term
invariant-loop-term l = record {
  value : l.total ≡ sum_at (take l.term-index l.terms) l.values;
  small : unsigned_abs l.total ≤ l.term-index * (10 ^ 24 * 2 ^ 31);
}
