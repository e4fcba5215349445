use Rattle.ug_ledger.proofs.PrimitiveLemmas.{primitive_covered}
use Rattle.ug_ledger.proofs.EndLemmas.{answer_right}
use Rattle.ug_ledger.proofs.ends.covered_to_the_end.Goals as goal

pub returns-clause-primitive : goal.returns-clause-primitive
returns-clause-primitive c = primitive_covered

pub returns-clause-answer : goal.returns-clause-answer
returns-clause-answer c = answer_right
