use Rattle.ug_rules.proofs.QueueLemmas.{death_leaves_places, hearing_takes_no_place, stops_are_of_called_off}
use Rattle.ug_rules.proofs.laws_of_hearing.stops_have_places.Goals as goal

pub returns-clause-stops : goal.returns-clause-stops
returns-clause-stops c = stops_are_of_called_off

pub returns-clause-death : goal.returns-clause-death
returns-clause-death c = death_leaves_places

pub returns-clause-hearing : goal.returns-clause-hearing
returns-clause-hearing c = hearing_takes_no_place
