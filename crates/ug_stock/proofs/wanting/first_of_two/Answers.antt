use Rattle.ug_stock.proofs.AskedFirst.{first_is_new}
use Rattle.ug_stock.proofs.wanting.first_of_two.Goals as goal

pub returns-then-is_ahead : goal.returns-then-is_ahead
returns-then-is_ahead c = λ members h can. first_is_new members c.args.before c.args.member h can c.if-is_ahead.ensures
