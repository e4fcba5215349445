use Rattle.std.proofs.Common.{◌≡◌, take}
use Rattle.ug_rules.specs.Ranks.{members_in}
use Rattle.ug_stock.proofs.members.members_of.Given as goal

abbrev pub invariant-loop-rank : goal.invariant-loop-rank
invariant-loop-rank l = l.members.items ≡ members_in (take l.rank l.ranks)
