use Rattle.std.proofs.Common.{◌≡◌, ◌++◌, drop}
use Rattle.ug_print.specs.Answers.{value_lines}
use Rattle.ug_print.proofs.answers.push_value_lines.Given as goal

abbrev pub invariant-loop-i : goal.invariant-loop-i
invariant-loop-i l =
    l.text.items ++ value_lines (drop l.i l.columns) (drop l.i l.values)
    ≡ l.initial.text.items ++ value_lines l.columns l.values
