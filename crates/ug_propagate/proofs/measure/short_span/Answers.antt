use Rattle.std.proofs.Common.{◌≡◌, ◌^◌, ◌<◌, unsigned_abs, arith}
use Rattle.std.proofs.lemmas.Int.{ints}
use mir.Syntax.{w128}
use mir.Val.{to_z, of_z}
use Rattle.ug_propagate.proofs.Machine.{slack_same}
use Rattle.ug_propagate.proofs.Shorts.{short_span_is}
use Rattle.ug_propagate.proofs.measure.short_span.Goals as goal

pub returns : goal.returns
returns c =
    let f = c.args.term.factor in
    let same : to_z w128 (of_z w128 f) ≡ f = slack_same f (omega (arith, c.requires.small)) in
    let short : unsigned_abs f < 2 ^ 31 =
    omega (arith, ints, same, c.if-term-gt-MOST_SHORT_FACTOR.false, c.if-term.false) in
    short_span_is c.args.term c.args.area.now c.short_change.result c.end_at-near.result c.end_at-far.result same short
    (record { sfits = c.end_at-near.type_inv }) (record { sfits = c.end_at-far.type_inv }) c.short_change.ensures.value c.end_at-near.ensures c.end_at-far.ensures
    c.short_change.ensures.small
