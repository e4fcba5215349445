use Rattle.std.proofs.Common.{take}
use Rattle.ug_rules.specs.Asking.{IsAskedFirstIfAny}
use Rattle.ug_stock.proofs.wanting.first.Given as goal

abbrev pub invariant-loop-member : goal.invariant-loop-member
invariant-loop-member l = IsAskedFirstIfAny (take l.member-index l.members) l.best
