use Rattle.std.proofs.Common.{◌≡◌, ◌≤◌, ◌*◌, ◌^◌, take}
use Rattle.ug_surrogate.specs.Magnitudes.{magnitude}
use Rattle.ug_surrogate.proofs.magnitude.terms_size.Given as goal

abbrev pub invariant-loop-term : goal.invariant-loop-term
invariant-loop-term l = record {
  value : l.total ≡ magnitude (take l.term-index l.terms) l.area;
  small : l.total ≤ l.term-index * (10 ^ 24 * 2 ^ 31);
}
