use Rattle.std.proofs.Common.{◌≡◌}
use Rattle.ug_measure.proofs.calls.tell.Given as goal

abbrev pub invariant-loop-call : goal.invariant-loop-call
invariant-loop-call g l = l.pass.lock ≡ l.initial.pass.lock
