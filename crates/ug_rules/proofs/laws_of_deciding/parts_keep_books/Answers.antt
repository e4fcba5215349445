use Rattle.ug_rules.proofs.DecidedLemmas.{announced_keeps, collected_keeps, dropped_keeps, ended_keeps, given_keeps}
use Rattle.ug_rules.proofs.laws_of_deciding.parts_keep_books.Goals as goal

pub returns-clause-dropped : goal.returns-clause-dropped
returns-clause-dropped c = dropped_keeps

pub returns-clause-announced : goal.returns-clause-announced
returns-clause-announced c = announced_keeps

pub returns-clause-race : goal.returns-clause-race
returns-clause-race c = ended_keeps

pub returns-clause-given : goal.returns-clause-given
returns-clause-given c = given_keeps

pub returns-clause-collected : goal.returns-clause-collected
returns-clause-collected c = collected_keeps
