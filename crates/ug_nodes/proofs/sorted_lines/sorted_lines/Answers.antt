use Rattle.std.proofs.Common.{List, subst}
use Rattle.std.specs.Borrow.{Bor}
use Rattle.std.specs.List.Sorted.{IsPermutation}
use Rattle.std.proofs.lemmas.List.Sorted.{IsPermutation-map}
use Rattle.ug_nodes.specs.declared.name.Name.{Name}
use Rattle.ug_nodes.specs.SortedLines.{fronts}
use Rattle.ug_nodes.proofs.sorted_lines.sorted_lines.Goals as goal

pub returns-clause-same : goal.returns-clause-same
returns-clause-same c =
    subst (λ ls. IsPermutation ls (fronts c.sort.new.self.items)) c.in_ok-lines.ensures
    (IsPermutation-map (λ (l : Bor (List Name)). l.now) _ c.sort.new.self.items c.sort.ensures.permutation)
