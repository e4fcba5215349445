use Rattle.std.proofs.Common.{◌*ℤ◌, FitsSigned, pos, arith, rules}
use Rattle.std.proofs.lemmas.Int.{to_z-of_z, to_z_pos, unsigned_abs-mul}
use mir.Syntax.{w128}
use Rattle.ug_rows.proofs.Products.{abs_add}
use Rattle.ug_surrogate.proofs.Machine.{word_product, word_sum}
use Rattle.ug_surrogate.proofs.rounding.add_steps.Goals as goal

pub times-requires : goal.times-requires
times-requires c =
    rw (to_z_pos w128 c.args.divisor (omega (arith, c.requires.divisor)), to_z-of_z w128 c.args.steps c.ranges.steps)
    (omega (arith, c.requires.steps))

pub plus-requires : goal.plus-requires
plus-requires c =
    let d = pos c.args.divisor in
    let s = c.args.steps in
    let fits : FitsSigned w128 c.times.result = search rules in
    let divisor = to_z_pos w128 c.args.divisor (omega (arith, c.requires.divisor)) in
    let product = word_product d s _ _ c.times.result divisor (to_z-of_z w128 s c.ranges.steps) c.times.ensures fits in
    rw (product, to_z-of_z w128 c.args.base c.ranges.base)
    (omega (arith, c.requires.base, c.requires.steps, abs_add c.args.base (d *ℤ s), unsigned_abs-mul d s))

pub returns : goal.returns
returns c =
    let d = pos c.args.divisor in
    let s = c.args.steps in
    let fits : FitsSigned w128 c.times.result = search rules in
    let fits_sum : FitsSigned w128 c.plus.result = search rules in
    let divisor = to_z_pos w128 c.args.divisor (omega (arith, c.requires.divisor)) in
    let product = word_product d s _ _ c.times.result divisor (to_z-of_z w128 s c.ranges.steps) c.times.ensures fits in
    word_sum c.args.base (d *ℤ s) _ _ c.plus.result (to_z-of_z w128 c.args.base c.ranges.base) product c.plus.ensures fits_sum
