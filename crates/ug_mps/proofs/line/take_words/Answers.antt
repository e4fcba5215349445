use Rattle.std.proofs.Common.{arith}
use Rattle.std.proofs.lemmas.Grind.{common_steps}
use Rattle.ug_mps.proofs.line.take_words.Goals as goal

pub returns-then-is_data : goal.returns-then-is_data
returns-then-is_data c = grind (arith, common_steps)

pub returns-else-is_data : goal.returns-else-is_data
returns-else-is_data c = grind (arith, common_steps)
