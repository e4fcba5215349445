use Rattle.std.proofs.Common.{◌∙◌, ◌*ℤ◌, FitsSigned, arith, rules}
use Rattle.std.proofs.lemmas.Int.{to_z-of_z}
use mir.Syntax.{w64, w128}
use Rattle.ug_surrogate.proofs.Machine.{weighted_size, weighted_sum, word_product, word_sum}
use Rattle.ug_surrogate.proofs.columns.add_weighted.Goals as goal

pub times-requires : goal.times-requires
times-requires c =
    let fits : FitsSigned w128 c.from.result = search rules in
    rw (
      to_z-of_z w128 c.from.result fits ∙ c.from.ensures ∙ to_z-of_z w64 c.args.weight c.ranges.weight,
      to_z-of_z w128 c.args.factor c.ranges.factor,
    )
    (omega (arith, weighted_size c.args.weight c.args.factor c.requires.weight c.requires.factor))

pub plus-requires : goal.plus-requires
plus-requires c =
    let w = c.args.weight in
    let f = c.args.factor in
    let fits : FitsSigned w128 c.from.result = search rules in
    let fits_product : FitsSigned w128 c.times.result = search rules in
    let left = to_z-of_z w128 c.from.result fits ∙ c.from.ensures ∙ to_z-of_z w64 w c.ranges.weight in
    let right = to_z-of_z w128 f c.ranges.factor in
    let product = word_product w f _ _ c.times.result left right c.times.ensures fits_product in
    rw (product, to_z-of_z w128 c.args.total c.ranges.total)
    (omega (arith, c.requires.total, weighted_sum c.args.total w f c.requires.total c.requires.weight c.requires.factor))

pub returns-clause-value : goal.returns-clause-value
returns-clause-value c =
    let w = c.args.weight in
    let f = c.args.factor in
    let fits : FitsSigned w128 c.from.result = search rules in
    let fits_product : FitsSigned w128 c.times.result = search rules in
    let fits_sum : FitsSigned w128 c.plus.result = search rules in
    let left = to_z-of_z w128 c.from.result fits ∙ c.from.ensures ∙ to_z-of_z w64 w c.ranges.weight in
    let right = to_z-of_z w128 f c.ranges.factor in
    let product = word_product w f _ _ c.times.result left right c.times.ensures fits_product in
    word_sum c.args.total (w *ℤ f) _ _ c.plus.result (to_z-of_z w128 c.args.total c.ranges.total) product c.plus.ensures fits_sum

pub returns-clause-small : goal.returns-clause-small
returns-clause-small c =
    rw (returns-clause-value c) (weighted_sum c.args.total c.args.weight c.args.factor c.requires.total c.requires.weight c.requires.factor)
