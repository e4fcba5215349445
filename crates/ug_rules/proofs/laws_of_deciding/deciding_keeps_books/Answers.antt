use Rattle.ug_rules.proofs.DecidedLemmas.{decided_keeps, stands_keeps}
use Rattle.ug_rules.proofs.laws_of_deciding.deciding_keeps_books.Goals as goal

pub returns-clause-decided : goal.returns-clause-decided
returns-clause-decided c = decided_keeps

pub returns-clause-stands : goal.returns-clause-stands
returns-clause-stands c = stands_keeps
