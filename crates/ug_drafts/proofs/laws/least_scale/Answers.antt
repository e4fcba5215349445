use Rattle.ug_drafts.proofs.ScaleLaws as scales
use Rattle.ug_drafts.proofs.laws.least_scale.Goals as goal

pub returns : goal.returns
returns c = scales.least_scale
