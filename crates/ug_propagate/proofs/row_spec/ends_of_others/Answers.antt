use Rattle.std.proofs.Common.{◌≡◌, ◌∙◌, ℤ, ◌-ℤ◌, FitsSigned, ap, arith, rules}
use Rattle.std.proofs.lemmas.Int.{ints, to_z-of_z}
use mir.Syntax.{w128}
use Rattle.ug_rows.specs.Sums.{end_product, end_sum}
use Rattle.ug_rows.proofs.Products.{abs_sub}
use Rattle.ug_propagate.proofs.Words.{difference_fits}
use Rattle.ug_propagate.proofs.row_spec.ends_of_others.Goals as goal

pub overflow_sub-result : goal.overflow_sub-result
overflow_sub-result c =
    let sum = c.sum_of_ends.result in
    let product = c.add_end-product.result in
    let fits : FitsSigned w128 sum = search rules in
    let fits_product : FitsSigned w128 product = search rules in
    rw (to_z-of_z w128 sum fits, to_z-of_z w128 product fits_product)
    (difference_fits sum product (omega (arith, c.sum_of_ends.ensures.small, c.add_end-product.ensures.small)))

pub returns-clause-value : goal.returns-clause-value
returns-clause-value c =
    let sum = c.sum_of_ends.result in
    let product = c.add_end-product.result in
    let fits : FitsSigned w128 sum = search rules in
    let fits_product : FitsSigned w128 product = search rules in
    let whole = difference_fits sum product (omega (arith, c.sum_of_ends.ensures.small, c.add_end-product.ensures.small)) in
    let is : product ≡ end_product c.args.extreme c.args.term c.args.sides.now = omega (arith, ints, c.add_end-product.ensures.value) in
    rw (to_z-of_z w128 sum fits, to_z-of_z w128 product fits_product)
    (to_z-of_z w128 (sum -ℤ product) whole ∙ ap (λ (v : ℤ). v -ℤ product) c.sum_of_ends.ensures.sum
    ∙ ap (λ (v : ℤ). end_sum c.args.extreme c.args.terms.now c.args.sides.now -ℤ v) is)

pub returns-clause-small : goal.returns-clause-small
returns-clause-small c =
    let sum = c.sum_of_ends.result in
    let product = c.add_end-product.result in
    let fits : FitsSigned w128 sum = search rules in
    let fits_product : FitsSigned w128 product = search rules in
    let whole = difference_fits sum product (omega (arith, c.sum_of_ends.ensures.small, c.add_end-product.ensures.small)) in
    rw (to_z-of_z w128 sum fits, to_z-of_z w128 product fits_product, to_z-of_z w128 (sum -ℤ product) whole)
    (omega (arith, abs_sub sum product, c.sum_of_ends.ensures.small, c.add_end-product.ensures.small))
