use Rattle.std.proofs.Common.{◌≡◌, ℕ, ◌+◌, ◌<◌, ◌≤◌, ◌*◌, ◌^◌, ◌≤ℤ◌, take, unsigned_abs}
use Rattle.ug_rows.specs.declared.sums.Extreme.TheVariants.{Least, Greatest}
use Rattle.ug_rows.specs.Boxes.{HasSmallEnds, interval_at}
use Rattle.ug_rows.specs.Rows.{term_at}
use Rattle.ug_rows.specs.Sums.{end_sum}
use Rattle.ug_propagate.specs.Shorts.{size_of}
use Rattle.ug_propagate.specs.Steps.{span_of}
use Rattle.ug_propagate.proofs.short_measure.measure_short.Given as goal

abbrev pub invariant-loop-term : goal.invariant-loop-term
invariant-loop-term l = record {
  size : size_of (take l.term-index l.terms) + l.left ≡ 2 ^ 29;
  least : l.ends.least ≡ end_sum Least (take l.term-index l.terms) l.area;
  greatest : l.ends.greatest ≡ end_sum Greatest (take l.term-index l.terms) l.area;
  widest : (k : ℕ) → k < l.term-index → span_of (term_at l.terms k) l.area ≤ℤ l.ends.widest;
  small : (k : ℕ) → k < l.term-index → HasSmallEnds (interval_at l.area (term_at l.terms k).column);
  small_least : unsigned_abs l.ends.least + l.left * 2 ^ 31 ≤ 2 ^ 60;
  small_greatest : unsigned_abs l.ends.greatest + l.left * 2 ^ 31 ≤ 2 ^ 60;
}
