use Rattle.std.proofs.Common.{rules}
use Rattle.std.proofs.lemmas.Fn.{always_returns_same}
use Rattle.ug_nodes.specs.SortedLines.{key_of}
use Rattle.ug_nodes.proofs.ahead.by_name.Goals as goal

pub returns-clause-order : goal.returns-clause-order
returns-clause-order c =
    c.in_ok-sort_by_key.ensures.sorted key_of (always_returns_same _ _ _ (λ a r f' k. search rules))
