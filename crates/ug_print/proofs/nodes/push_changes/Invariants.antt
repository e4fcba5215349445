use Rattle.std.proofs.Common.{◌≡◌, ◌++◌, drop}
use Rattle.ug_print.specs.Checkpoints.{all_change_words}
use Rattle.ug_print.proofs.nodes.push_changes.Given as goal

abbrev pub invariant-loop-i : goal.invariant-loop-i
invariant-loop-i l =
    l.text.items ++ all_change_words l.columns (drop l.i l.changes)
    ≡ l.initial.text.items ++ all_change_words l.columns l.changes
