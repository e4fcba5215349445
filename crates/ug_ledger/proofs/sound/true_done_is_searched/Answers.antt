use Rattle.ug_ledger.proofs.DoneLemmas.{done_searched}
use Rattle.ug_ledger.proofs.sound.true_done_is_searched.Goals as goal

pub returns : goal.returns
returns c = done_searched
