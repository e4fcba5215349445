use Rattle.ug_base.proofs.Leasts.{AreRenewedTo}
use Rattle.ug_base.proofs.open_boxes.renew.Given as goal

abbrev pub invariant-loop-k : goal.invariant-loop-k
invariant-loop-k l = AreRenewedTo l.k l.initial.kept.items l.kept.items l.before
