use Rattle.std.proofs.Common.{ℕ, List, length, subst, sym}
use Rattle.ug_rows.specs.declared.row.Term.{Term}
use Rattle.ug_propagate.specs.declared.row_sides.RowSides.{RowSides}
use Rattle.ug_propagate.specs.Steps.{IsPropagable}
use Rattle.ug_propagate.specs.Working.{sides_for}
use Rattle.ug_propagate.proofs.Waiting.{has_propagated, propagable_for}
use Rattle.ug_propagate.proofs.settle.propagate_wide.Goals as goal

pub propagate_row-requires-clause-row : goal.propagate_row-requires-clause-row
propagate_row-requires-clause-row c =
    let p = c.args.problem.now in
    let P : ℕ → Type 0 = λ (n : ℕ). IsPropagable n c.sides_under-row_sides.result c.terms_at.result.now in
    let Q : RowSides → Type 0 = λ (l : RowSides). IsPropagable (length p.columns) l c.terms_at.result.now in
    let R : List Term → Type 0 = λ (ts : List Term). IsPropagable (length p.columns) (sides_for p c.args.cutoff c.args.r) ts in
    subst P (sym c.requires.work.sums.width)
    (subst Q (sym c.sides_under-row_sides.ensures.value)
    (subst R (sym c.terms_at.ensures.value)
    (propagable_for p c.args.cutoff c.args.r c.sides_under-row_sides.ensures.problem c.requires.cutoff c.requires.there)))

pub returns-clause-row_sides : goal.returns-clause-row_sides
returns-clause-row_sides c =
    has_propagated c.args.problem.now c.args.cutoff c.args.r c.sides_under-row_sides.result c.terms_at.result.now c.args.work.now _ _
    c.sides_under-row_sides.ensures.value c.terms_at.ensures.value c.in_ok-propagated.ensures.value c.in_ok-propagated.ensures.same
    c.in_ok-propagated.ensures.rest c.in_ok-propagated.ensures.snug
