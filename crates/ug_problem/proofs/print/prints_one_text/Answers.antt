use Rattle.ug_problem.specs.Printed.{shown_of}
use Rattle.ug_problem.proofs.OneText.{same_text}
use Rattle.ug_problem.proofs.print.prints_one_text.Goals as goal

pub returns : goal.returns
returns c = λ objective value s t a b. same_text objective.scale (shown_of objective value) s t a b
