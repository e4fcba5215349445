use Rattle.ug_rules.proofs.EventLemmas.{counted_none, idle_death_none, ready_none, reported_none}
use Rattle.ug_rules.proofs.laws_of_hearing.other_events_are_none.Goals as goal

pub returns-clause-counted : goal.returns-clause-counted
returns-clause-counted c = counted_none

pub returns-clause-ready : goal.returns-clause-ready
returns-clause-ready c = ready_none

pub returns-clause-reported : goal.returns-clause-reported
returns-clause-reported c = reported_none

pub returns-clause-idle_death : goal.returns-clause-idle_death
returns-clause-idle_death c = idle_death_none
