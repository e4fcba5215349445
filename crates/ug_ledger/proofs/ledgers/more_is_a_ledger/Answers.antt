use Rattle.ug_ledger.proofs.GivenLemmas.{given_ledger}
use Rattle.ug_ledger.proofs.HandedWork.{handed_ledger}
use Rattle.ug_ledger.proofs.ledgers.more_is_a_ledger.Goals as goal

pub returns-clause-given : goal.returns-clause-given
returns-clause-given c = given_ledger

pub returns-clause-handed : goal.returns-clause-handed
returns-clause-handed c = handed_ledger
