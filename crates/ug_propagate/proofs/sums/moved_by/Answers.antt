use Rattle.std.proofs.Common.{arith}
use Rattle.ug_rows.specs.declared.sums.Extreme.TheVariants.{Least, Greatest}
use Rattle.ug_propagate.proofs.Machine.{slack_same}
use Rattle.ug_propagate.proofs.Running.{moved_so}
use Rattle.ug_propagate.proofs.sums.moved_by.Goals as goal

pub returns-clause-least : goal.returns-clause-least
returns-clause-least c =
    moved_so Least c.args.entry.factor _ c.args.ends.least _ c.args.before c.args.after c.moves_between.result
    c.moves_between.ensures (slack_same c.args.entry.factor (omega (arith, c.requires.factor))) c.move_sums.ensures.least

pub returns-clause-greatest : goal.returns-clause-greatest
returns-clause-greatest c =
    moved_so Greatest c.args.entry.factor _ c.args.ends.greatest _ c.args.before c.args.after c.moves_between.result
    c.moves_between.ensures (slack_same c.args.entry.factor (omega (arith, c.requires.factor))) c.move_sums.ensures.greatest
