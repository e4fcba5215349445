use Rattle.std.proofs.Common.{sym, subst}
use Rattle.std.specs.Prelude.{Contains, IsTrue, ◌↔◌}
use Rattle.ug_nodes.specs.SortedLines.{fronts}
use Rattle.ug_nodes.proofs.Found.{among}
use Rattle.ug_nodes.proofs.sorted_lines.is_among.Goals as goal

pub returns : goal.returns
returns c =
    let search_ = c.binary_search in
    subst (λ b. IsTrue b ↔ Contains (fronts c.args.lines.now) c.args.line.now) (sym c.is_ok.ensures.value)
    (among c.args.lines.now c.args.line search_.result c.requires search_.ensures.bound search_.ensures.position)
