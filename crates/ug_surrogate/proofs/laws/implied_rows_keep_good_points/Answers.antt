use Rattle.ug_surrogate.proofs.Combined.{implied_is_kept}
use Rattle.ug_surrogate.proofs.laws.implied_rows_keep_good_points.Goals as goal

pub returns : goal.returns
returns c = λ p m cutoff row are implied x good. implied_is_kept p m cutoff row are implied x good
