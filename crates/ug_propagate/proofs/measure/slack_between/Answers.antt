use Rattle.std.proofs.Common.{length, arith}
use Rattle.std.proofs.lemmas.Int.{ints}
use Rattle.ug_propagate.proofs.Slacks.{slack_summed}
use Rattle.ug_propagate.proofs.measure.slack_between.Goals as goal

pub returns : goal.returns
returns c =
    slack_summed (length c.args.area.now) c.args.row_sides c.args.terms.now c.args.area.now c.args.ends _ c.requires.ready
    c.requires.summed (omega (arith, ints)) (omega (arith, ints))
