use Rattle.std.proofs.Common.{◌∙◌, subst, sym}
use Rattle.ug_rows.specs.declared.row.Row.{Row}
use Rattle.ug_problem.specs.Instances.{row_at}
use Rattle.ug_surrogate.specs.declared.rounding.Narrowed.TheVariants.{To, Empty}
use Rattle.ug_surrogate.specs.Stronger.{IsInPlaceOf}
use Rattle.ug_surrogate.proofs.Follows.{none_in_place, rounded_in_place}
use Rattle.ug_surrogate.proofs.Complete.{tightened_to}
use Rattle.ug_surrogate.proofs.in_place.rounded_row.Goals as goal

pub returns-in_ok-row-in-To-clause-in_place : goal.returns-in_ok-row-in-To-clause-in_place
returns-in_ok-row-in-To-clause-in_place c =
    let p = c.args.problem.now in
    let area = c.args.area.now in
    subst (λ (row : Row). IsInPlaceOf p area c.args.r row) (sym c.in_ok-row-in-To.ensures)
    (rounded_in_place p area c.args.r c.in-To.sides c.rounded_at.ensures.problem c.requires.there
    c.in-To.ensures.kept c.in-To.ensures.narrower)

pub returns-in_ok-row-in-To-clause-some : goal.returns-in_ok-row-in-To-clause-some
returns-in_ok-row-in-To-clause-some c =
    tightened_to c.args.area.now (row_at c.args.problem.now c.args.r) c.in_ok-row-in-To.row
    (To c.in-To.sides)
    c.in-To.ensures.value (c.if-not-are_new_sides.ensures ∙ sym c.in_ok-row-in-To.ensures)

pub returns-then-not-are_new_sides-clause-none : goal.returns-then-not-are_new_sides-clause-none
returns-then-not-are_new_sides-clause-none c =
    tightened_to c.args.area.now (row_at c.args.problem.now c.args.r)
    (row_at c.args.problem.now c.args.r) (To c.in-To.sides)
    c.in-To.ensures.value c.if-not-are_new_sides.ensures

pub returns-in-Empty-clause-in_place : goal.returns-in-Empty-clause-in_place
returns-in-Empty-clause-in_place c =
    let p = c.args.problem.now in
    let area = c.args.area.now in
    subst (λ (row : Row). IsInPlaceOf p area c.args.r row) (sym c.no_row.ensures)
    (none_in_place p area c.args.r c.requires.there c.in-Empty.ensures.kept)

pub returns-in-Empty-clause-some : goal.returns-in-Empty-clause-some
returns-in-Empty-clause-some c =
    tightened_to c.args.area.now (row_at c.args.problem.now c.args.r) _ Empty
    c.in-Empty.ensures.value (sym c.no_row.ensures)
