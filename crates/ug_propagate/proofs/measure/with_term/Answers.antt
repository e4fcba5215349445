use Rattle.std.proofs.Common.{◌≡◌, ◌∙◌, ℤ, ◌+ℤ◌, ◌-ℤ◌, ◌*ℤ◌, ◌≤ℤ◌, FitsSigned, ap, subst, arith, rules}
use Rattle.std.proofs.lemmas.Int.{to_z-of_z}
use mir.Syntax.{w128}
use Rattle.ug_rows.specs.declared.sums.Extreme.TheVariants.{Greatest, Least}
use Rattle.ug_rows.specs.Sums.{end_of}
use Rattle.ug_propagate.proofs.Machine.{slack_same}
use Rattle.ug_propagate.proofs.measure.with_term.Goals as goal

pub plus-requires : goal.plus-requires
plus-requires c =
    let least = c.product-least.result in
    let fits : FitsSigned w128 least = search rules in
    rw (slack_same c.args.ends.least (omega (arith, c.requires.least)), to_z-of_z w128 least fits)
    (omega (arith, c.requires.least, c.product-least.ensures.small))

pub plus-requires-2 : goal.plus-requires-2
plus-requires-2 c =
    let greatest = c.product-greatest.result in
    let fits : FitsSigned w128 greatest = search rules in
    rw (slack_same c.args.ends.greatest (omega (arith, c.requires.greatest)), to_z-of_z w128 greatest fits)
    (omega (arith, c.requires.greatest, c.product-greatest.ensures.small))

pub minus-requires : goal.minus-requires
minus-requires c =
    let least = c.product-least.result in
    let greatest = c.product-greatest.result in
    let fits : FitsSigned w128 least = search rules in
    let fits_greatest : FitsSigned w128 greatest = search rules in
    rw (to_z-of_z w128 greatest fits_greatest, to_z-of_z w128 least fits)
    (omega (arith, c.product-least.ensures.small, c.product-greatest.ensures.small))

pub returns-clause-least : goal.returns-clause-least
returns-clause-least c =
    let least = c.product-least.result in
    let fits : FitsSigned w128 least = search rules in
    let fits_sum : FitsSigned w128 c.plus.result = search rules in
    to_z-of_z w128 c.plus.result fits_sum
    ∙ rw (slack_same c.args.ends.least (omega (arith, c.requires.least)), to_z-of_z w128 least fits) at c.plus.ensures.value
    ∙ ap (λ (v : ℤ). c.args.ends.least +ℤ v) c.product-least.ensures.value

pub returns-clause-greatest : goal.returns-clause-greatest
returns-clause-greatest c =
    let greatest = c.product-greatest.result in
    let fits : FitsSigned w128 greatest = search rules in
    let fits_sum : FitsSigned w128 c.plus-2.result = search rules in
    to_z-of_z w128 c.plus-2.result fits_sum
    ∙ rw (slack_same c.args.ends.greatest (omega (arith, c.requires.greatest)), to_z-of_z w128 greatest fits) at c.plus-2.ensures.value
    ∙ ap (λ (v : ℤ). c.args.ends.greatest +ℤ v) c.product-greatest.ensures.value

pub returns-clause-span : goal.returns-clause-span
returns-clause-span c =
    let f = c.args.term.factor in
    let least = c.product-least.result in
    let greatest = c.product-greatest.result in
    let fits : FitsSigned w128 least = search rules in
    let fits_greatest : FitsSigned w128 greatest = search rules in
    let fits_span : FitsSigned w128 c.minus.result = search rules in
    let fits_widest : FitsSigned w128 c.larger.result = search rules in
    let is : c.minus.result ≡ (f *ℤ end_of Greatest f c.args.side) -ℤ (f *ℤ end_of Least f c.args.side) =
    rw (to_z-of_z w128 greatest fits_greatest, to_z-of_z w128 least fits) at c.minus.ensures.value
    ∙ ap (λ (v : ℤ). v -ℤ least) c.product-greatest.ensures.value
    ∙ ap (λ (v : ℤ). (f *ℤ end_of Greatest f c.args.side) -ℤ v) c.product-least.ensures.value in
    rw (to_z-of_z w128 c.larger.result fits_widest)
    (subst (λ (v : ℤ). v ≤ℤ c.larger.result) is (rw (to_z-of_z w128 c.minus.result fits_span) at c.larger.ensures.second))

pub returns-clause-small_least : goal.returns-clause-small_least
returns-clause-small_least c =
    let least = c.product-least.result in
    let fits : FitsSigned w128 least = search rules in
    let fits_sum : FitsSigned w128 c.plus.result = search rules in
    let small =
    rw (slack_same c.args.ends.least (omega (arith, c.requires.least)), to_z-of_z w128 least fits) at c.plus.ensures.small in
    rw (to_z-of_z w128 c.plus.result fits_sum) (omega (arith, small, c.product-least.ensures.small))

pub returns-clause-small_greatest : goal.returns-clause-small_greatest
returns-clause-small_greatest c =
    let greatest = c.product-greatest.result in
    let fits : FitsSigned w128 greatest = search rules in
    let fits_sum : FitsSigned w128 c.plus-2.result = search rules in
    let small =
    rw (slack_same c.args.ends.greatest (omega (arith, c.requires.greatest)), to_z-of_z w128 greatest fits) at c.plus-2.ensures.small in
    rw (to_z-of_z w128 c.plus-2.result fits_sum) (omega (arith, small, c.product-greatest.ensures.small))
