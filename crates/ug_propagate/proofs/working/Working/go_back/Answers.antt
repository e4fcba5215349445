use Rattle.std.proofs.Common.{arith}
use Rattle.ug_propagate.proofs.Stepping.{back_step}
use Rattle.ug_propagate.proofs.working.Working.go_back.Goals as goal

pub loop-self-preserved : goal.loop-self-preserved
loop-self-preserved c = record {
  back = back_step c.args.depth c.args.self.now c.loop-self.self c.undo.new.self
      (omega (arith, c.trail_len.ensures, c.loop-self-test.true)) c.undo.ensures.undone c.loop-self.invariant.back;
  trail = c.undo.ensures.trail;
  sums = c.undo.ensures.sums;
}
