-- The line of a run that ended with nodes left, and those of saves that were not made.
use Rattle.std.specs.Prelude.{◌≡◌, ℕ, ℤ, List, [], ◌++◌, length, Option, Some, None, codes, ◌==◌}
use Rattle.std.specs.Prelude.{if◌then◌else◌}
use Rattle.std.specs.Fmt.{decimal}
use Rattle.ug_rows.specs.Rows.{value_of}
use Rattle.ug_problem.specs.Instances.{Instance}
use Rattle.ug_problem.specs.Printed.{IsPrinted}
use Rattle.ug_nodes.specs.declared.node.Node.{Node}
use Rattle.ug_rules.specs.State.{BookState}
use Rattle.ug_snapshot.specs.Moments.{ArePrimitive}
use Rattle.ug_print.specs.Answers.{value_lines}
use Rattle.ug_print.specs.Lines.{line, further, named_line}

-- the value of the best point as it is printed, and `none` where there is none
abbrev pub IsBestWord : Instance → Option (List ℤ) → List ℕ → Type 0
IsBestWord p None word = word ≡ codes "none"
IsBestWord p (Some x) word = IsPrinted p.objective (value_of p.objective x) word

-- the lines of the columns of the best point that are not 0; none where there is no point
abbrev pub best_lines : Instance → Option (List ℤ) → List ℕ
best_lines p None = []
best_lines p (Some x) = value_lines p.columns x

-- a name, the best value and a count of nodes
abbrev pub left_line : List ℕ → List ℕ → ℕ → List ℕ
left_line name best count = line (name ++ further best ++ further (decimal count))

-- the line of this name of a book that has nodes left: the value of its incumbent, and how many
-- primitive nodes it has
pub record IsLeftLine (name : List ℕ) (b : BookState) (text : List ℕ) : Type 0 where
  pub best : List ℕ
  pub nodes : List Node
  pub value : IsBestWord b.problem b.best best
  pub primitive : ArePrimitive b nodes
  pub is : text ≡ left_line name best (length nodes)

-- the line of a book that continues
abbrev pub IsOpenLine : BookState → List ℕ → Type 0
IsOpenLine b text = IsLeftLine (codes "open") b text

-- the line of one all whose ranks are lost
abbrev pub IsStrandedLine : BookState → List ℕ → Type 0
IsStrandedLine b text = IsLeftLine (codes "stranded") b text

-- the line of a count that is not 0
abbrev pub count_part : List ℕ → ℕ → List ℕ
count_part name count = if count == 0 then [] else named_line name (decimal count)

-- how many saves the disk failed, and how many were refused for memory, where there are any
abbrev pub count_lines : ℕ → ℕ → List ℕ
count_lines missed unsaved =
    count_part (codes "missed") missed ++ count_part (codes "unsaved") unsaved
