use Rattle.ug_disk.proofs.LawLemmas.{sync_leaves_one}
use Rattle.ug_disk.proofs.laws.sync_leaves_one.Goals as goal

pub returns : goal.returns
returns c = sync_leaves_one
