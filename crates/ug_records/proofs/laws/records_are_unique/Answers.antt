use Rattle.ug_records.proofs.Verdicts.{records_are_unique}
use Rattle.ug_records.proofs.laws.records_are_unique.Goals as goal

pub returns : goal.returns
returns c = records_are_unique
