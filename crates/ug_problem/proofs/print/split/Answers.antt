use Rattle.ug_problem.proofs.Printing.{one_digit_more}
use Rattle.ug_problem.proofs.print.split.Goals as goal

pub loop-place-preserved : goal.loop-place-preserved
loop-place-preserved c =
    rw c.in_ok-push.ensures.items (one_digit_more _ _ _ _ c.loop-place.invariant)
