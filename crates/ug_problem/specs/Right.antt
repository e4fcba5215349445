-- What a right answer is, within a gap.
use Rattle.std.specs.Prelude.{ℤ, ◌+ℤ◌, ◌≤ℤ◌, ◌↔◌, List, All, Option, Some, None}
use Rattle.ug_rows.specs.Rows.{value_of}
use Rattle.ug_problem.specs.Instances.{Instance}
use Rattle.ug_problem.specs.Feasible.{Feasible}
use Rattle.ug_problem.specs.Incumbents.{Incumbent, one_kept}
use Rattle.ug_problem.specs.Better.{Better, BetterThanOne, IsGap}
use Rattle.ug_problem.specs.declared.answer.Answer.{Answer}
use Rattle.ug_problem.specs.declared.answer.Answer.TheVariants.{Optimal, Infeasible}

-- the points kept are a right answer: they are feasible, and no point is better
pub record Right (p : Instance) (gap : ℤ) (best : Incumbent) : Type 0 where
  pub feasible : All (Feasible p) best.points
  pub unbeaten : (x : List ℤ) → ¬ Better p gap best x

-- x is feasible, and no feasible point has a value that is less by more than the gap
pub record IsOptimal (p : Instance) (gap : ℤ) (x : List ℤ) : Type 0 where
  pub feasible : Feasible p x
  pub unbeaten : (y : List ℤ) → Feasible p y
      → value_of p.objective x ≤ℤ (value_of p.objective y +ℤ gap)

-- the point is optimal within the gap, or no point is feasible
abbrev pub IsRightAnswer : Instance → ℤ → Answer → Type 0
IsRightAnswer p gap (Optimal x) = IsOptimal p gap x
IsRightAnswer p gap Infeasible = (x : List ℤ) → ¬ Feasible p x

-- the answer if one point is kept at most: that point, or that there is none
abbrev pub answer_of : Option (List ℤ) → Answer
answer_of (Some x) = Optimal x
answer_of None = Infeasible

-- If one point is kept at most, a better point is a feasible one whose value is smaller by more
-- than the gap. The point is a right answer exactly if it is optimal within the gap, or if it is
-- missing and no point is feasible.
pub record OneIsKept : Type 0 where
  pub better : (p : Instance) (gap : ℤ) (best : Option (List ℤ)) (x : List ℤ) → IsGap gap
      → Better p gap (one_kept best) x ↔ BetterThanOne p gap best x
  pub right : (p : Instance) (gap : ℤ) (best : Option (List ℤ)) → IsGap gap
      → Right p gap (one_kept best) ↔ IsRightAnswer p gap (answer_of best)
