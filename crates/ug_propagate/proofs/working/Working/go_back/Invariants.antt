use Rattle.std.proofs.Common.{◌-◌, length}
use Rattle.ug_propagate.specs.Running.{IsRunning}
use Rattle.ug_propagate.specs.Working.{AreTrailed}
use Rattle.ug_propagate.proofs.Stepping.{GoesBack}
use Rattle.ug_propagate.proofs.working.Working.go_back.Given as goal

abbrev pub invariant-loop-self : goal.invariant-loop-self
invariant-loop-self l = record {
  back : GoesBack l.depth l.initial.self l.self;
  trail : AreTrailed (length l.problem.columns) l.self.trail;
  sums : IsRunning l.problem l.self.sums;
}

abbrev pub decreases-loop-self : goal.decreases-loop-self
decreases-loop-self l = length l.self.trail - l.depth
