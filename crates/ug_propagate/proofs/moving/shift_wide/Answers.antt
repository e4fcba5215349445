use Rattle.std.proofs.Common.{arith}
use Rattle.ug_propagate.proofs.Running.{next_ready, shift_ends, shift_step}
use Rattle.ug_propagate.proofs.moving.shift_wide.Goals as goal

pub shift_row-requires-clause-least : goal.shift_row-requires-clause-least
shift_row-requires-clause-least c =
    (next_ready c.args.problem.now c.args.column c.args.area.now c.args.side c.entries-entries.result.now
    c.loop-entry.entry-index c.loop-entry.sums c.entries-entries.ensures.problem
    c.entries-entries.ensures.value c.loop-entry-test.true c.loop-entry.invariant).least

pub shift_row-requires-clause-greatest : goal.shift_row-requires-clause-greatest
shift_row-requires-clause-greatest c =
    (next_ready c.args.problem.now c.args.column c.args.area.now c.args.side c.entries-entries.result.now
    c.loop-entry.entry-index c.loop-entry.sums c.entries-entries.ensures.problem
    c.entries-entries.ensures.value c.loop-entry-test.true c.loop-entry.invariant).greatest

pub shift_row-requires-clause-factor : goal.shift_row-requires-clause-factor
shift_row-requires-clause-factor c =
    (next_ready c.args.problem.now c.args.column c.args.area.now c.args.side c.entries-entries.result.now
    c.loop-entry.entry-index c.loop-entry.sums c.entries-entries.ensures.problem
    c.entries-entries.ensures.value c.loop-entry-test.true c.loop-entry.invariant).factor

pub loop-entry-preserved : goal.loop-entry-preserved
loop-entry-preserved c =
    shift_step c.args.problem.now c.args.column c.args.area.now c.args.side c.entries-entries.result.now
    c.loop-entry.entry-index c.loop-entry.sums c.shift_row.new.sums c.moves_between-moves.result
    c.entries-entries.ensures.problem c.entries-entries.ensures.value c.loop-entry-test.true c.requires.there
    c.moves_between-moves.ensures c.shift_row.ensures c.loop-entry.invariant

pub returns : goal.returns
returns c =
    shift_ends c.args.problem.now c.args.column c.args.area.now c.args.side c.entries-entries.result.now
    c.loop-entry.entry-index c.loop-entry.sums c.requires.sums.width
    c.entries-entries.ensures.value (omega (arith, c.loop-entry-test.false)) c.loop-entry.invariant
