use Rattle.std.proofs.Common.{◌≡◌, ◌++◌, drop}
use Rattle.ug_print.specs.Checkpoints.{node_lines}
use Rattle.ug_print.proofs.nodes.push_node_lines.Given as goal

abbrev pub invariant-loop-i : goal.invariant-loop-i
invariant-loop-i l =
    l.text.items ++ node_lines l.columns l.i (drop l.i l.nodes)
    ≡ l.initial.text.items ++ node_lines l.columns 0 l.nodes
