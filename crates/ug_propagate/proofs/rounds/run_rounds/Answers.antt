use Rattle.std.proofs.Common.{sym}
use Rattle.ug_propagate.proofs.Bodies.{rounds_end, rounds_go, rounds_still, rounds_stop}
use Rattle.ug_propagate.proofs.rounds.run_rounds.Goals as goal

pub returns-in-Emptied : goal.returns-in-Emptied
returns-in-Emptied c =
    rounds_stop c.loop-i.i c.args.problem.now c.args.cutoff c.loop-i.area c.in-Emptied.reason _
    c.loop-i-test.true c.in-Emptied.ensures.value c.loop-i.invariant

pub returns-in-Same : goal.returns-in-Same
returns-in-Same c =
    rounds_still c.loop-i.i c.args.problem.now c.args.cutoff c.loop-i.area c.run_round.new.area _
    c.in-Same.ensures.value (sym c.in-Same.ensures.still) c.loop-i.invariant

pub loop-i-preserved : goal.loop-i-preserved
loop-i-preserved c =
    rounds_go c.loop-i.i c.args.problem.now c.args.cutoff c.loop-i.area c.run_round.new.area _
    c.loop-i-test.true c.in-Changed.ensures.value c.loop-i.invariant

pub returns : goal.returns
returns c =
    rounds_end c.loop-i.i c.args.problem.now c.args.cutoff c.loop-i.area _ c.loop-i-test.false c.loop-i.invariant
