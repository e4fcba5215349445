use Rattle.ug_stock.proofs.AskedFirst.{first_is_only}
use Rattle.ug_stock.proofs.wanting.first_of.Goals as goal

pub returns-in-Some : goal.returns-in-Some
returns-in-Some c = λ members h. c.first_of_two.ensures members (rw c.in-Some.is at h) c.if-not-can_be_asked.ensures

pub returns-in-None : goal.returns-in-None
returns-in-None c = λ members h. first_is_only members c.args.member (rw c.in-None.is at h) c.if-not-can_be_asked.ensures
