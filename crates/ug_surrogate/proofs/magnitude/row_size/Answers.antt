use Rattle.std.proofs.Common.{◌∙◌, List, FitsSigned, arith, refl, ap, length, unsigned_abs, rules}
use Rattle.std.proofs.lemmas.Int.{to_z-of_z}
use mir.Syntax.{w128}
use Rattle.ug_rows.specs.declared.row.Row.{Row}
use Rattle.ug_rows.specs.declared.row.Term.{Term}
use Rattle.ug_surrogate.specs.Magnitudes.{magnitude}
use Rattle.ug_surrogate.proofs.Parts.{row_linear}
use Rattle.ug_surrogate.proofs.magnitude.row_size.Goals as goal

pub terms_size-requires : goal.terms_size-requires
terms_size-requires c =
    let same = c.as_slice.ensures ∙ ap (λ (row : Row). row.terms) c.row_under-row.ensures.value in
    rw same
    (row_linear c.args.problem.now c.args.multiplier.row (length c.args.area.now) c.row_under-row.ensures.problem c.requires.width
    c.requires.side.there)

pub overflow_add-result : goal.overflow_add-result
overflow_add-result c = omega (arith, c.terms_size.ensures.small, c.unsigned_abs.ensures.bound)

pub returns : goal.returns
returns c =
    let area = c.args.area.now in
    let side = c.side_under.result in
    let fits : FitsSigned w128 side = search rules in
    let same = c.as_slice.ensures ∙ ap (λ (row : Row). row.terms) c.row_under-row.ensures.value in
    let terms = c.terms_size.ensures.value ∙ ap (λ (ts : List Term). magnitude ts area) same in
    let size = c.unsigned_abs.ensures.value ∙ ap unsigned_abs (to_z-of_z w128 side fits ∙ c.side_under.ensures) in
    record { value = rw (terms, size) refl }
