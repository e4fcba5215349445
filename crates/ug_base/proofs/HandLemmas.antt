-- Handing keeps what every task is.
use Rattle.std.proofs.Common.{◌≡◌, inl, inr, List, [], ◌∷◌, ◌++◌, sym, ◌∙◌, subst}
use Rattle.std.proofs.lemmas.List.Elements.{All-append, All-cons, All-head, All-nil, All-tail}
use Rattle.ug_rows.specs.declared.area.Interval.{Interval}
use Rattle.ug_rows.specs.Boxes.{IsBelow, IsInOne}
use Rattle.ug_propagate.specs.Working.{WorkState}
use Rattle.ug_base.specs.declared.open_box.OpenBox.{OpenBox}
use Rattle.ug_base.specs.Covers.{AreCovered}
use Rattle.ug_base.specs.Hands.{IsMoved}
use Rattle.ug_base.specs.Chains.{areas_of}
use Rattle.ug_base.specs.Tasks.{AreBelow, IsTask, TaskState}
use Rattle.ug_base.proofs.LastBox.{in_one_behind, in_one_front}

-- the first of the boxes left is the last of the boxes handed
record IsMovedOver (boxes_old boxes_new handed_old handed_new : List (List Interval)) (area : List Interval) : Type 0 where
  first : boxes_old ≡ area ∷ boxes_new
  last : handed_new ≡ handed_old ++ area ∷ []

-- a point of the first box left is in a box handed after it
handed_covered : (t : TaskState) (boxes handed : List (List Interval)) (area : List Interval) → IsTask t → IsMovedOver t.boxes boxes t.handed handed area
    → AreCovered t.problem t.cutoff t.whole boxes handed
handed_covered t boxes handed area task m x inside good = elim (task.covered x inside good) [
  | inl a ↦ elim (subst (λ bs. IsInOne bs x) m.first a) [
    | inl first ↦ inr (subst (λ bs. IsInOne bs x) (sym m.last) (in_one_behind t.handed (area ∷ []) x (inl first)))
    | inr rest ↦ inl rest
  ]
  | inr b ↦ inr (subst (λ bs. IsInOne bs x) (sym m.last) (in_one_front t.handed (area ∷ []) x b))
]

-- with the first box left moved to the boxes handed
handed_task_by : (t : TaskState) (boxes handed : List (List Interval)) (area : List Interval) → IsTask t → IsMovedOver t.boxes boxes t.handed handed area
    → IsTask (record t { boxes = boxes; handed = handed })
handed_task_by t boxes handed area task m =
    let P : List Interval → Type 0 = λ (b : List Interval). IsBelow b t.whole in
    let all : AreBelow t.whole (area ∷ boxes) = subst (AreBelow t.whole) m.first task.below in
    record {
      problem = task.problem;
      whole = task.whole;
      cutoff = task.cutoff;
      gap = task.gap;
      below = All-tail P area boxes all;
      handed_below = subst (AreBelow t.whole) (sym m.last)
          (All-append P t.handed (area ∷ []) task.handed_below (All-cons P area [] (All-head P area boxes all) (All-nil P)));
      covered = handed_covered t boxes handed area task m;
    }

-- of the fields of a task
pub handed_task : (t : TaskState) (work : WorkState) (old new : List OpenBox) (handed : List (List Interval)) (area : List Interval)
    → t.boxes ≡ areas_of work old → IsTask t → IsMoved work old new t.handed handed area
    → IsTask (record t { boxes = areas_of work new; handed = handed })
handed_task t work old new handed area same task m =
    handed_task_by t (areas_of work new) handed area task (record {
      first = same ∙ m.boxes;
      last = m.last;
    })

-- the first of the boxes left is handed
pub handed_first : (work : WorkState) (old new : List OpenBox) (handed_old handed_new : List (List Interval)) (area : List Interval)
    → IsMoved work old new handed_old handed_new area → areas_of work old ≡ area ∷ areas_of work new
handed_first work old new handed_old handed_new area m = m.boxes
