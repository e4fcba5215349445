-- The lines of an answer.
use Rattle.std.specs.Prelude.{◌≡◌, ℕ, ℤ, pos, List, [], ◌∷◌, ◌++◌, codes, ◌==◌, if◌then◌else◌}
use Rattle.std.specs.Ordering.{int_eq}
use Rattle.std.specs.Fmt.{decimal, signed_decimal}
use Rattle.ug_rows.specs.Rows.{value_of}
use Rattle.ug_problem.specs.declared.column.Column.{Column}
use Rattle.ug_problem.specs.declared.answer.Answer.{Answer}
use Rattle.ug_problem.specs.declared.answer.Answer.TheVariants.{Optimal, Infeasible}
use Rattle.ug_problem.specs.Instances.{Instance}
use Rattle.ug_problem.specs.Printed.{IsPrinted}
use Rattle.ug_print.specs.Lines.{line, further, named_line}

-- the claim about a value: that it is optimal, or, if a gap was given, that it is within this gap
abbrev pub claim_under : ℕ → List ℕ
claim_under gap =
    if gap == 0 then codes "optimal" else codes "within" ++ further (decimal gap)

-- the claim and the value
abbrev pub claim_line : ℕ → List ℕ → List ℕ
claim_line gap value = line (claim_under gap ++ further value)

-- the line of a column whose value is not 0: its name and its value
abbrev pub value_part : Column → ℤ → List ℕ
value_part column value =
    if int_eq value (pos 0) then [] else named_line column.name (signed_decimal value)

-- a line for each column whose value is not 0, in order
abbrev pub value_lines : List Column → List ℤ → List ℕ
value_lines [] x = []
value_lines (column ∷ columns) [] = []
value_lines (column ∷ columns) (value ∷ x) = value_part column value ++ value_lines columns x

-- the lines of the point x under a gap: its value, and the columns that are not 0
abbrev pub ArePointLines : ℕ → Instance → List ℤ → List ℕ → Type 0
ArePointLines gap p x text = (value : List ℕ) × IsPrinted p.objective (value_of p.objective x) value
    × (text ≡ claim_line gap value ++ value_lines p.columns x)

-- the lines of an answer to p under a gap, which is in the units that are printed
abbrev pub AreAnswerLines : ℕ → Instance → Answer → List ℕ → Type 0
AreAnswerLines gap p (Optimal x) text = ArePointLines gap p x text
AreAnswerLines gap p Infeasible text = text ≡ line (codes "infeasible")

-- the first of them
abbrev pub IsValueLine : ℕ → Instance → List ℤ → List ℕ → Type 0
IsValueLine gap p x text = (value : List ℕ) × IsPrinted p.objective (value_of p.objective x) value
    × (text ≡ claim_line gap value)

-- the first line of an answer: what is claimed and the value, or `infeasible`
abbrev pub IsAnswerLine : ℕ → Instance → Answer → List ℕ → Type 0
IsAnswerLine gap p (Optimal x) text = IsValueLine gap p x text
IsAnswerLine gap p Infeasible text = text ≡ line (codes "infeasible")
