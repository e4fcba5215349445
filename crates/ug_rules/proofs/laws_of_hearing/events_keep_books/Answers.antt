use Rattle.ug_rules.proofs.EventLemmas.{counted_keeps, death_keeps, hand_keeps_all, ready_keeps, reported_keeps, solution_keeps}
use Rattle.ug_rules.proofs.laws_of_hearing.events_keep_books.Goals as goal

pub returns-clause-counted : goal.returns-clause-counted
returns-clause-counted c = counted_keeps

pub returns-clause-ready : goal.returns-clause-ready
returns-clause-ready c = ready_keeps

pub returns-clause-reported : goal.returns-clause-reported
returns-clause-reported c = reported_keeps

pub returns-clause-solution : goal.returns-clause-solution
returns-clause-solution c = solution_keeps

pub returns-clause-hand : goal.returns-clause-hand
returns-clause-hand c = hand_keeps_all

pub returns-clause-death : goal.returns-clause-death
returns-clause-death c = death_keeps
