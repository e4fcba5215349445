use Rattle.std.proofs.Common.{◌∙◌, ap, ℤ, ◌*ℤ◌, FitsSigned, arith, rules}
use Rattle.std.proofs.lemmas.Int.{to_z-of_z, unsigned_abs-mul}
use mir.Syntax.{w32, w128}
use Rattle.ug_rows.specs.declared.sums.Extreme.TheVariants.{Least}
use Rattle.ug_rows.specs.Sums.{end_of}
use Rattle.ug_surrogate.proofs.Machine.{word_product, word_sum}
use Rattle.ug_surrogate.proofs.least.add_least.Goals as goal

pub times-requires : goal.times-requires
times-requires c =
    let f = c.args.factor in
    let same = to_z-of_z w128 f c.ranges.factor in
    let fits_end : FitsSigned w32 c.end_at.result = search rules in
    let fits_wide : FitsSigned w128 c.from-end.result = search rules in
    let end = to_z-of_z w128 c.from-end.result fits_wide ∙ c.from-end.ensures ∙ to_z-of_z w32 c.end_at.result fits_end
    ∙ c.end_at.ensures ∙ ap (λ (z : ℤ). end_of Least z c.args.side) same in
    rw (same, end) (omega (arith, c.requires.product, unsigned_abs-mul f (end_of Least f c.args.side)))

pub plus-requires : goal.plus-requires
plus-requires c =
    let f = c.args.factor in
    let same = to_z-of_z w128 f c.ranges.factor in
    let fits_end : FitsSigned w32 c.end_at.result = search rules in
    let fits_wide : FitsSigned w128 c.from-end.result = search rules in
    let fits_product : FitsSigned w128 c.times.result = search rules in
    let end = to_z-of_z w128 c.from-end.result fits_wide ∙ c.from-end.ensures ∙ to_z-of_z w32 c.end_at.result fits_end
    ∙ c.end_at.ensures ∙ ap (λ (z : ℤ). end_of Least z c.args.side) same in
    let product = word_product f (end_of Least f c.args.side) _ _ c.times.result same end c.times.ensures fits_product in
    rw (product, to_z-of_z w128 c.args.total c.ranges.total) c.requires.sum

pub returns-clause-value : goal.returns-clause-value
returns-clause-value c =
    let f = c.args.factor in
    let same = to_z-of_z w128 f c.ranges.factor in
    let fits_end : FitsSigned w32 c.end_at.result = search rules in
    let fits_wide : FitsSigned w128 c.from-end.result = search rules in
    let fits_product : FitsSigned w128 c.times.result = search rules in
    let fits_sum : FitsSigned w128 c.plus.result = search rules in
    let end = to_z-of_z w128 c.from-end.result fits_wide ∙ c.from-end.ensures ∙ to_z-of_z w32 c.end_at.result fits_end
    ∙ c.end_at.ensures ∙ ap (λ (z : ℤ). end_of Least z c.args.side) same in
    let product = word_product f (end_of Least f c.args.side) _ _ c.times.result same end c.times.ensures fits_product in
    word_sum c.args.total (f *ℤ end_of Least f c.args.side) _ _ c.plus.result (to_z-of_z w128 c.args.total c.ranges.total) product
    c.plus.ensures fits_sum

pub returns-clause-small : goal.returns-clause-small
returns-clause-small c = rw (returns-clause-value c) c.requires.sum
