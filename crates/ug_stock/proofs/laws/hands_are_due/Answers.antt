use Rattle.ug_stock.proofs.Due.{next_is_next, refused_is_due}
use Rattle.ug_stock.proofs.laws.hands_are_due.Goals as goal

pub returns-clause-refused : goal.returns-clause-refused
returns-clause-refused c = refused_is_due

pub returns-clause-next : goal.returns-clause-next
returns-clause-next c = next_is_next
