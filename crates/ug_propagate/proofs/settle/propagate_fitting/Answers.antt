use Rattle.std.proofs.Common.{◌∙◌, ℕ, ap, length, subst, sym}
use Rattle.ug_problem.specs.ColumnEntries.{terms_of}
use Rattle.ug_propagate.specs.declared.row_sides.RowSides.{RowSides}
use Rattle.ug_propagate.specs.Steps.{IsPropagable}
use Rattle.ug_propagate.proofs.Waiting.{has_propagated, propagable_for}
use Rattle.ug_propagate.proofs.settle.propagate_fitting.Goals as goal

pub short_sides-requires-clause-short : goal.short_sides-requires-clause-short
short_sides-requires-clause-short c = c.requires.work.sums.short (sym c.is_short.ensures ∙ c.if-is_short.true)

pub short_sides-requires-clause-row : goal.short_sides-requires-clause-row
short_sides-requires-clause-row c =
    let p = c.args.problem.now in
    subst (λ (l : RowSides). IsPropagable (length p.columns) l (terms_of p c.args.r)) (sym c.requires.row_sides)
    (propagable_for p c.args.cutoff c.args.r c.requires.problem c.requires.cutoff c.requires.there)

pub returns-in-Some-clause-row_sides : goal.returns-in-Some-clause-row_sides
returns-in-Some-clause-row_sides c =
    let p = c.args.problem.now in
    has_propagated p c.args.cutoff c.args.r c.in-Some.s.row_sides (terms_of p c.in-Some.s.r) c.args.work.now _ _
    (c.in-Some.ensures.row_sides ∙ c.requires.row_sides) (ap (λ (n : ℕ). terms_of p n) c.in-Some.ensures.row) c.in_ok-propagated.ensures.value
    c.in_ok-propagated.ensures.same c.in_ok-propagated.ensures.rest c.in_ok-propagated.ensures.snug
