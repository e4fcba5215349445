use Rattle.ug_top.proofs.Answering as answering
use Rattle.ug_top.proofs.headline.answers_are_right.Goals as goal

pub returns : goal.returns
returns c = answering.answers_are_right c.one_point_is_kept.ensures
