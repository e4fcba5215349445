use Rattle.ug_stock.proofs.Winners.{winner_alone}
use Rattle.ug_stock.proofs.choosing.first_of.Goals as goal

pub returns-in-Some : goal.returns-in-Some
returns-in-Some c = λ racers h. c.first_of_two.ensures c.args.w racers (rw c.in-Some.is at h) c.if-racer-w.false

pub returns-in-None : goal.returns-in-None
returns-in-None c = λ racers h. winner_alone c.args.w racers c.args.racer (rw c.in-None.is at h) c.if-racer-w.false
