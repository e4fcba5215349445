use Rattle.ug_rules.proofs.RoomLemmas.{calling_off_takes_none, death_takes_none, freeing_takes_none, hand_leaves_as_many, hearing_takes_none, writing_counts}
use Rattle.ug_rules.proofs.laws_of_hearing.hearing_takes_no_room.Goals as goal

pub returns-clause-writing : goal.returns-clause-writing
returns-clause-writing c = writing_counts

pub returns-clause-calling_off : goal.returns-clause-calling_off
returns-clause-calling_off c = calling_off_takes_none

pub returns-clause-freeing : goal.returns-clause-freeing
returns-clause-freeing c = freeing_takes_none

pub returns-clause-hand : goal.returns-clause-hand
returns-clause-hand c = hand_leaves_as_many

pub returns-clause-death : goal.returns-clause-death
returns-clause-death c = death_takes_none

pub returns-clause-hearing : goal.returns-clause-hearing
returns-clause-hearing c = hearing_takes_none
