use Rattle.std.proofs.Common.{◌∙◌, sym, pos, ◌<ℤ◌, ◌≤ℤ◌, ◌^◌, ◌≤◌, unsigned_abs, FitsSigned, arith, rules}
use Rattle.std.proofs.lemmas.Int.{to_z-of_z}
use mir.Syntax.{w128}
use Rattle.ug_propagate.proofs.Quotients.{abs_floor}
use Rattle.ug_propagate.proofs.Words.{floor_above_zero, floor_below_zero, less_false, less_true, negated_above, negated_fits, word_negated}
use Rattle.ug_propagate.proofs.quotient.floor_div.Goals as goal

pub overflow_sub-number : goal.overflow_sub-number
overflow_sub-number c = rw (to_z-of_z w128 c.args.number c.ranges.number) (negated_fits c.args.number c.requires.number)

pub overflow_sub-divisor : goal.overflow_sub-divisor
overflow_sub-divisor c =
    rw (to_z-of_z w128 c.args.divisor c.ranges.divisor) (negated_fits c.args.divisor (omega (arith, c.requires.divisor)))

pub divide-requires-else-divisor-gt0 : goal.divide-requires-else-divisor-gt0
divide-requires-else-divisor-gt0 c =
    let below : c.args.divisor ≤ℤ pos 0 = less_false _ _ (rw (to_z-of_z w128 c.args.divisor c.ranges.divisor) at c.if-divisor-gt0.false) in
    rw (word_negated c.args.divisor (omega (arith, c.requires.divisor))) (record { divisor = negated_above c.args.divisor below c.requires.nonzero })

pub returns-then-divisor-gt0-clause-value : goal.returns-then-divisor-gt0-clause-value
returns-then-divisor-gt0-clause-value c =
    let fits : FitsSigned w128 c.divide.result = search rules in
    let above : pos 0 <ℤ c.args.divisor = less_true _ _ (rw (to_z-of_z w128 c.args.divisor c.ranges.divisor) at c.if-divisor-gt0.true) in
    to_z-of_z w128 c.divide.result fits
    ∙ rw (to_z-of_z w128 c.args.number c.ranges.number, to_z-of_z w128 c.args.divisor c.ranges.divisor) at c.divide.ensures
    ∙ sym (floor_above_zero c.args.number c.args.divisor above)

pub returns-then-divisor-gt0-clause-small : goal.returns-then-divisor-gt0-clause-small
returns-then-divisor-gt0-clause-small c =
    rw (returns-then-divisor-gt0-clause-value c) (omega (arith, abs_floor c.args.number c.args.divisor, c.requires.number))

pub returns-else-divisor-gt0-clause-value : goal.returns-else-divisor-gt0-clause-value
returns-else-divisor-gt0-clause-value c =
    let fits : FitsSigned w128 c.divide-else-divisor-gt0.result = search rules in
    let below : c.args.divisor ≤ℤ pos 0 = less_false _ _ (rw (to_z-of_z w128 c.args.divisor c.ranges.divisor) at c.if-divisor-gt0.false) in
    let small : unsigned_abs c.args.divisor ≤ 10 ^ 38 = omega (arith, c.requires.divisor) in
    to_z-of_z w128 c.divide-else-divisor-gt0.result fits
    ∙ rw (word_negated c.args.number c.requires.number, word_negated c.args.divisor small) at c.divide-else-divisor-gt0.ensures
    ∙ sym (floor_below_zero c.args.number c.args.divisor below c.requires.nonzero)

pub returns-else-divisor-gt0-clause-small : goal.returns-else-divisor-gt0-clause-small
returns-else-divisor-gt0-clause-small c =
    rw (returns-else-divisor-gt0-clause-value c) (omega (arith, abs_floor c.args.number c.args.divisor, c.requires.number))
