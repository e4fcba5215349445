use Rattle.std.proofs.Common.{length, unsigned_abs, ap, arith}
use Rattle.std.proofs.lemmas.Int.{ints, fits_signed_from_abs, to_z-of_z}
use mir.Syntax.{w128}
use Rattle.ug_nodes.specs.Changes.{change_bounds}
use Rattle.ug_nodes.proofs.Floors.{among_small, with_term, without_term}
use Rattle.ug_nodes.proofs.floor.moved_by_one.Goals as goal

pub replaced-requires-clause-factor : goal.replaced-requires-clause-factor
replaced-requires-clause-factor c = among_small c.args.terms.now c.in-Some.term c.requires.linear.small c.in-Some.ensures.0

pub returns-in-Some-clause-value : goal.returns-in-Some-clause-value
returns-in-Some-clause-value c = λ area wide same.
    let total = to_z-of_z w128 c.args.total c.ranges.total in
    let result = to_z-of_z w128 c.replaced.result (fits_signed_from_abs w128 c.replaced.result (omega (arith, c.replaced.ensures.small, ap unsigned_abs total))) in
    with_term (length c.args.root.now) c.args.terms.now c.in-Some.term c.args.root.now area c.args.change.column
    (change_bounds c.args.change) c.args.total _ c.requires.linear c.in-Some.ensures.0 c.in-Some.ensures.1 c.requires.there wide same
    (rw (result, c.replaced.ensures.value, total, c.bounds.ensures))

pub returns-in-None-clause-value : goal.returns-in-None-clause-value
returns-in-None-clause-value c = λ area wide same.
    let stays = without_term c.args.terms.now area c.args.change.column (change_bounds c.args.change) c.args.total c.in-None.ensures in
    omega (arith, ints, stays)
