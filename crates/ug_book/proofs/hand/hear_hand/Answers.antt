use Rattle.std.proofs.Common.{subst}
use Rattle.ug_nodes.specs.Changes.{IsRising}
use Rattle.ug_book.proofs.hand.hear_hand.Goals as goal

pub returns-in-Err-clause-taken : goal.returns-in-Err-clause-taken
returns-in-Err-clause-taken c = λ b problem. c.in-Err.ensures.err b

pub returns-in-Err-clause-rising : goal.returns-in-Err-clause-rising
returns-in-Err-clause-rising c = subst IsRising c.changes.view_is c.changes.invariant
