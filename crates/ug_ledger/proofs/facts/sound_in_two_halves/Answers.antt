use Rattle.ug_ledger.proofs.SoundLemmas.{sound_is_both}
use Rattle.ug_ledger.proofs.facts.sound_in_two_halves.Goals as goal

pub returns : goal.returns
returns c = sound_is_both
