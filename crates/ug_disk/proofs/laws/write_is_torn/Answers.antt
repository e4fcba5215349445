use Rattle.ug_disk.proofs.LawLemmas.{write_is_torn}
use Rattle.ug_disk.proofs.laws.write_is_torn.Goals as goal

pub returns : goal.returns
returns c = write_is_torn
