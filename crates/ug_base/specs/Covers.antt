-- Which points the boxes have that are left, and those that were handed.
use Rattle.std.specs.Prelude.{ℤ, ◌⊎◌, List, Option}
use Rattle.ug_rows.specs.declared.area.Interval.{Interval}
use Rattle.ug_rows.specs.Boxes.{IsInOne, IsInside}
use Rattle.ug_problem.specs.Instances.{Instance}
use Rattle.ug_problem.specs.Better.{IsGood}

-- each good point of the whole box lies in one of the boxes left, or in one handed
abbrev pub AreCovered : Instance → Option ℤ → List Interval → List (List Interval)
    → List (List Interval) → Type 0
AreCovered p cutoff whole boxes handed =
    (x : List ℤ) → IsInside whole x → IsGood p cutoff x → IsInOne boxes x ⊎ IsInOne handed x
