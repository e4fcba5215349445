use Rattle.std.proofs.lemmas.Int.{to_z-of_z}
use mir.Syntax.{w64, w128}
use Rattle.ug_propagate.proofs.Shorts.{short_above, short_below, short_same}
use Rattle.ug_propagate.proofs.Words.{less_false, less_true, within_short}
use Rattle.ug_propagate.proofs.measure.short.Goals as goal

pub returns-then-number-gt-MOST_SHORT : goal.returns-then-number-gt-MOST_SHORT
returns-then-number-gt-MOST_SHORT c =
    short_above c.args.number _
    (less_true _ _ (rw (to_z-of_z w128 c.args.number c.ranges.number) at c.if-number-gt-MOST_SHORT.true))

pub returns-then-number : goal.returns-then-number
returns-then-number c = short_below c.args.number

pub overflow_cast-result : goal.overflow_cast-result
overflow_cast-result c =
    let n = c.args.number in
    let same = to_z-of_z w128 n c.ranges.number in
    rw same
    (within_short n (less_false _ _ (rw same at c.if-number-gt-MOST_SHORT.false)) (less_false _ _ (rw same at c.if-number.false)))

pub returns : goal.returns
returns c =
    let n = c.args.number in
    let same = to_z-of_z w128 n c.ranges.number in
    let fits = within_short n (less_false _ _ (rw same at c.if-number-gt-MOST_SHORT.false))
    (less_false _ _ (rw same at c.if-number.false)) in
    short_same n _ (rw same (to_z-of_z w64 n fits))
