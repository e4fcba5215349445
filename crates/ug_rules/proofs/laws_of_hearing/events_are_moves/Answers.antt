use Rattle.ug_rules.proofs.EventLemmas.{death_has_taken_in, done_has_done, hand_has_handed, racer_death_has_ended, solution_improves}
use Rattle.ug_rules.proofs.laws_of_hearing.events_are_moves.Goals as goal

pub returns-clause-solution : goal.returns-clause-solution
returns-clause-solution c = solution_improves

pub returns-clause-hand : goal.returns-clause-hand
returns-clause-hand c = hand_has_handed

pub returns-clause-done : goal.returns-clause-done
returns-clause-done c = done_has_done

pub returns-clause-death : goal.returns-clause-death
returns-clause-death c = death_has_taken_in

pub returns-clause-racer_death : goal.returns-clause-racer_death
returns-clause-racer_death c = racer_death_has_ended
