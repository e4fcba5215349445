use Rattle.std.proofs.Common.{◌≡◌, drop}
use Rattle.ug_propagate.specs.Rounds.{over_terms}
use Rattle.ug_propagate.specs.Steps.{row_of}
use Rattle.ug_propagate.specs.declared.tight.Tight.TheVariants.{Kept}
use Rattle.ug_propagate.proofs.row_spec.tighten_terms.Given as goal

abbrev pub invariant-loop-term : goal.invariant-loop-term
invariant-loop-term l =
    over_terms l.row_sides.row (row_of l.row_sides l.terms) (drop l.term-index l.terms) (Kept l.area)
    ≡ over_terms l.row_sides.row (row_of l.row_sides l.terms) l.terms (Kept l.fn.area)
