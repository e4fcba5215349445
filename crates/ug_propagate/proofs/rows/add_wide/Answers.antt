use Rattle.std.proofs.Common.{FitsSigned, rules}
use Rattle.std.proofs.lemmas.Int.{to_z-of_z}
use mir.Syntax.{w128}
use Rattle.ug_propagate.proofs.Fresh.{wide_push}
use Rattle.ug_propagate.proofs.rows.add_wide.Goals as goal

pub returns : goal.returns
returns c =
    let ends = c.measured-ends.result in
    let least : FitsSigned w128 ends.least = search rules in
    let greatest : FitsSigned w128 ends.greatest = search rules in
    let widest : FitsSigned w128 ends.widest = search rules in
    rw (
      c.in_ok-push.ensures.items,
      c.in_ok-push-2.ensures.items,
      to_z-of_z w128 ends.least least,
      to_z-of_z w128 ends.greatest greatest,
      to_z-of_z w128 ends.widest widest,
    )
    (wide_push c.args.problem.now c.args.area.now c.args.r c.args.sums.now.items c.args.max_span.now.items ends c.requires.so_far
    c.measured-ends.ensures)
