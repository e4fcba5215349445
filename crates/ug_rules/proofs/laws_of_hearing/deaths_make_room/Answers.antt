use Rattle.ug_rules.proofs.RoomLemmas.{death_makes_room, done_makes_room, held_in_or_out, lost_race_makes_room}
use Rattle.ug_rules.proofs.laws_of_hearing.deaths_make_room.Goals as goal

pub returns-clause-held : goal.returns-clause-held
returns-clause-held c = held_in_or_out

pub returns-clause-death : goal.returns-clause-death
returns-clause-death c = death_makes_room

pub returns-clause-lost_race : goal.returns-clause-lost_race
returns-clause-lost_race c = lost_race_makes_room

pub returns-clause-done : goal.returns-clause-done
returns-clause-done c = done_makes_room
