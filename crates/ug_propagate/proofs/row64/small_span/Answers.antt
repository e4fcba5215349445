use Rattle.std.proofs.Common.{◌≡◌, arith}
use mir.Syntax.{w64, w128}
use mir.Val.{to_z, of_z}
use Rattle.ug_propagate.specs.Shorts.{IsShortSpan}
use Rattle.ug_propagate.proofs.Machine.{slack_same}
use Rattle.ug_propagate.proofs.Shorts.{short_span_is}
use Rattle.ug_propagate.proofs.row64.small_span.Goals as goal

pub returns-clause-value : goal.returns-clause-value
returns-clause-value c =
    let f = c.args.term.factor in
    let same : to_z w128 (of_z w128 f) ≡ f = slack_same f (omega (arith, c.requires.size)) in
    let is : IsShortSpan c.args.term c.args.area.now (to_z w64 (of_z w64 c.small_change.result)) =
    short_span_is c.args.term c.args.area.now c.small_change.result c.end_at-near.result c.end_at-far.result same
    (omega (arith, c.requires.size))
    (record { sfits = c.end_at-near.type_inv }) (record { sfits = c.end_at-far.type_inv }) c.small_change.ensures.value c.end_at-near.ensures
    c.end_at-far.ensures (omega (arith, c.small_change.ensures.small)) in
    is.value
