use Rattle.std.proofs.Common.{unsigned_abs, ap, arith}
use Rattle.std.proofs.lemmas.Int.{ints, to_z-of_z}
use mir.Syntax.{w128}
use mir.Val.{to_z, of_z}
use Rattle.ug_nodes.proofs.Floors.{few_changes, one_moved}
use Rattle.ug_nodes.proofs.floor.moved_by.Goals as goal

pub moved_by_one-total-requires-clause-small : goal.moved_by_one-total-requires-clause-small
moved_by_one-total-requires-clause-small c =
    let floor = ap unsigned_abs (to_z-of_z w128 c.args.floor c.ranges.floor) in
    omega (arith, floor, few_changes c.args.root.now c.args.changes.now c.requires.rising c.requires.valid, c.loop-change.invariant.small)

pub loop-change-preserved : goal.loop-change-preserved
loop-change-preserved c =
    let value = one_moved c.args.terms.now c.args.root.now c.args.changes.now c.loop-change.change-index (to_z w128 (of_z w128 c.args.floor))
    (to_z w128 c.loop-change.total-bits) c.moved_by_one-total.result c.requires.rising c.loop-change-test.true
    c.loop-change.invariant.value c.moved_by_one-total.ensures.value in
    record {
      value = omega (arith, ints, value);
      small = omega (arith, ints, c.loop-change.invariant.small, c.moved_by_one-total.ensures.small);
    }

pub returns-clause-small : goal.returns-clause-small
returns-clause-small c =
    let floor = ap unsigned_abs (to_z-of_z w128 c.args.floor c.ranges.floor) in
    omega (arith, floor, few_changes c.args.root.now c.args.changes.now c.requires.rising c.requires.valid, c.loop-change.invariant.small)
