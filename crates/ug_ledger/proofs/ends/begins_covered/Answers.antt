use Rattle.ug_ledger.proofs.StartLemmas.{start_ledger, start_sound}
use Rattle.ug_ledger.proofs.ends.begins_covered.Goals as goal

pub returns-clause-ledger : goal.returns-clause-ledger
returns-clause-ledger c = start_ledger

pub returns-clause-sound : goal.returns-clause-sound
returns-clause-sound c = start_sound
