use Rattle.ug_ledger.proofs.FactLemmas.{names_count, tickets_count, none_current}
use Rattle.ug_ledger.proofs.facts.numbers_begin_at_one.Goals as goal

pub returns-clause-lines : goal.returns-clause-lines
returns-clause-lines c = names_count

pub returns-clause-ranks : goal.returns-clause-ranks
returns-clause-ranks c = tickets_count

pub returns-clause-before : goal.returns-clause-before
returns-clause-before c = none_current
