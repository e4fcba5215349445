use Rattle.ug_propagate.proofs.Machine.{slack_same}
use Rattle.ug_propagate.proofs.Shorts.{short_slack_of}
use Rattle.ug_propagate.proofs.measure.short_slack.Goals as goal

pub returns : goal.returns
returns c =
    short_slack_of c.args.slack c.short-high.result c.short-low.result c.lesser.result
    (slack_same c.args.slack.high c.requires.high) (slack_same c.args.slack.low c.requires.low) (record { sfits = c.short-high.type_inv })
    (record { sfits = c.short-low.type_inv }) (record { sfits = c.lesser.type_inv }) c.short-high.ensures c.short-low.ensures c.lesser.ensures.first
    c.lesser.ensures.second
