use Rattle.ug_image.proofs.Verdicts.{spellings_are_unique}
use Rattle.ug_image.proofs.laws.spellings_are_unique.Goals as goal

pub returns : goal.returns
returns c = spellings_are_unique
