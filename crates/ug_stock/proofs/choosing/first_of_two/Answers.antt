use Rattle.ug_stock.proofs.Winners.{winner_changes}
use Rattle.ug_stock.proofs.choosing.first_of_two.Goals as goal

pub returns-then-is_ahead : goal.returns-then-is_ahead
returns-then-is_ahead c = λ w racers h enough. winner_changes w racers c.args.before c.args.racer h enough c.if-is_ahead.ensures
