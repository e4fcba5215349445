use Rattle.ug_ledger.proofs.LessLemmas.{less_ledger, alone_keeps_work, ended_ledger, dropped_ledger}
use Rattle.ug_ledger.proofs.DoneLemmas.{done_ledger}
use Rattle.ug_ledger.proofs.TakenInLemmas.{taken_in_ledger}
use Rattle.ug_ledger.proofs.ledgers.less_is_a_ledger.Goals as goal

pub returns-clause-less : goal.returns-clause-less
returns-clause-less c = less_ledger

pub returns-clause-alone : goal.returns-clause-alone
returns-clause-alone c = alone_keeps_work

pub returns-clause-ended : goal.returns-clause-ended
returns-clause-ended c = ended_ledger

pub returns-clause-dropped : goal.returns-clause-dropped
returns-clause-dropped c = dropped_ledger

pub returns-clause-done : goal.returns-clause-done
returns-clause-done c = done_ledger

pub returns-clause-taken_in : goal.returns-clause-taken_in
returns-clause-taken_in c = taken_in_ledger
