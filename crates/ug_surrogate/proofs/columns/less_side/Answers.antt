use Rattle.std.proofs.Common.{◌∙◌, ◌*ℤ◌, FitsSigned, arith, rules}
use Rattle.std.proofs.lemmas.Int.{to_z-of_z}
use mir.Syntax.{w64, w128}
use Rattle.ug_surrogate.specs.Columns.{signed_weight}
use Rattle.ug_surrogate.specs.Weights.{side_under}
use Rattle.ug_surrogate.proofs.Machine.{less_size, word_difference, word_product}
use Rattle.ug_surrogate.proofs.Sizes.{signed_size}
use Rattle.ug_surrogate.proofs.columns.less_side.Goals as goal

pub times-requires : goal.times-requires
times-requires c =
    let u = c.args.multiplier in
    let fits_weight : FitsSigned w64 c.signed.result = search rules in
    let fits_wide : FitsSigned w128 c.from-weight.result = search rules in
    let fits_side : FitsSigned w128 c.side_under.result = search rules in
    let weight = to_z-of_z w128 c.from-weight.result fits_wide ∙ c.from-weight.ensures ∙ to_z-of_z w64 c.signed.result fits_weight
    ∙ c.signed.ensures.value in
    let side = to_z-of_z w128 c.side_under.result fits_side ∙ c.side_under.ensures in
    rw (weight, side) (omega (arith, signed_size c.args.problem.now u, c.requires.small))

pub minus-requires : goal.minus-requires
minus-requires c =
    let p = c.args.problem.now in
    let u = c.args.multiplier in
    let fits_weight : FitsSigned w64 c.signed.result = search rules in
    let fits_wide : FitsSigned w128 c.from-weight.result = search rules in
    let fits_side : FitsSigned w128 c.side_under.result = search rules in
    let fits_product : FitsSigned w128 c.times.result = search rules in
    let weight = to_z-of_z w128 c.from-weight.result fits_wide ∙ c.from-weight.ensures ∙ to_z-of_z w64 c.signed.result fits_weight
    ∙ c.signed.ensures.value in
    let side = to_z-of_z w128 c.side_under.result fits_side ∙ c.side_under.ensures in
    let product = word_product (signed_weight u) (side_under p u) _ _ c.times.result weight side c.times.ensures fits_product in
    rw (product, to_z-of_z w128 c.args.total c.ranges.total)
    (omega (arith, c.requires.small, less_size c.args.total (signed_weight u) (side_under p u) _ (signed_size p u)))

pub returns-clause-value : goal.returns-clause-value
returns-clause-value c =
    let p = c.args.problem.now in
    let u = c.args.multiplier in
    let fits_weight : FitsSigned w64 c.signed.result = search rules in
    let fits_wide : FitsSigned w128 c.from-weight.result = search rules in
    let fits_side : FitsSigned w128 c.side_under.result = search rules in
    let fits_product : FitsSigned w128 c.times.result = search rules in
    let fits_difference : FitsSigned w128 c.minus.result = search rules in
    let weight = to_z-of_z w128 c.from-weight.result fits_wide ∙ c.from-weight.ensures ∙ to_z-of_z w64 c.signed.result fits_weight
    ∙ c.signed.ensures.value in
    let side = to_z-of_z w128 c.side_under.result fits_side ∙ c.side_under.ensures in
    let product = word_product (signed_weight u) (side_under p u) _ _ c.times.result weight side c.times.ensures fits_product in
    word_difference c.args.total (signed_weight u *ℤ side_under p u) _ _ c.minus.result
    (to_z-of_z w128 c.args.total c.ranges.total) product c.minus.ensures fits_difference

pub returns-clause-small : goal.returns-clause-small
returns-clause-small c =
    let p = c.args.problem.now in
    let u = c.args.multiplier in
    rw (returns-clause-value c) (less_size c.args.total (signed_weight u) (side_under p u) _ (signed_size p u))

pub returns-clause-within : goal.returns-clause-within
returns-clause-within c = omega (arith, returns-clause-small c, c.requires.small)
