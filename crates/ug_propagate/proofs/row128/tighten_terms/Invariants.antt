use Rattle.std.proofs.Common.{◌≡◌, drop, false}
use Rattle.ug_propagate.specs.Rounds.{over_terms}
use Rattle.ug_propagate.specs.Shorts.{IsShortSlack}
use Rattle.ug_propagate.specs.Steps.{IsSlackOf, row_of}
use Rattle.ug_propagate.specs.Working.{HasOneSide, IsStep}
use Rattle.ug_propagate.specs.declared.tight.Tight.TheVariants.{Kept}
use Rattle.ug_propagate.proofs.Snug.{AreSnug}
use Rattle.ug_propagate.proofs.Stepping.{IsUnchanged}
use Rattle.ug_propagate.proofs.row128.tighten_terms.Given as goal

abbrev pub invariant-loop-term : goal.invariant-loop-term
invariant-loop-term l = record {
  step : IsStep l.problem l.initial.work l.work;
  so_far : over_terms l.row_sides.row (row_of l.row_sides l.terms) (drop l.term-index l.terms) (Kept l.work.sums.area)
      ≡ over_terms l.row_sides.row (row_of l.row_sides l.terms) l.terms (Kept l.initial.work.sums.area);
  slack : IsSlackOf l.row_sides l.terms l.work.sums.area l.now;
  snug : HasOneSide l.row_sides → AreSnug l.terms l.term-index l.work.sums.area l.now;
  most : IsShortSlack l.now l.most;
  same : l.changed ≡ false → IsUnchanged l.terms l.term-index l.initial.work l.work l.fn.slack l.now;
}
