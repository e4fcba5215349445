use Rattle.ug_checkpoint.proofs.Finding.{recovered_one, recovered_not_bad}
use Rattle.ug_checkpoint.proofs.laws.recovery_is_one.Goals as goal

pub returns-clause-one : goal.returns-clause-one
returns-clause-one c = recovered_one

pub returns-clause-none : goal.returns-clause-none
returns-clause-none c = recovered_not_bad
