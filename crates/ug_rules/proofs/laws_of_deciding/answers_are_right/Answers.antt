use Rattle.ug_rules.proofs.DecidedLemmas.{right_answer}
use Rattle.ug_rules.proofs.laws_of_deciding.answers_are_right.Goals as goal

pub returns : goal.returns
returns c = right_answer
