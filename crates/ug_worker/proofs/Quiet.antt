-- What no quiet step changes of a task, and where the boxes lie that it hands.
use Rattle.std.proofs.Common.{◌≡◌, inl, inr, ℕ, zero, suc, List, [], ◌∷◌, ◌++◌, length, refl, sym, ap, subst, ◌∙◌, arith}
use Rattle.std.proofs.lemmas.List.{get_or_push, length-append}
use Rattle.ug_rows.specs.declared.area.Interval.{Interval}
use Rattle.ug_rows.specs.Boxes.{IsBelow}
use Rattle.ug_rows.proofs.AreaLemmas.{below_trans}
use Rattle.ug_problem.specs.Instances.{root_of}
use Rattle.ug_base.specs.Tasks.{AreBelow, IsTask, TaskState}
use Rattle.ug_worker.specs.Engagements.{AreQuiet}

-- ---- what no quiet step changes

pub record IsSameTask (old new : TaskState) : Type 0 where
  pub problem : new.problem ≡ old.problem
  pub ticket : new.ticket ≡ old.ticket
  pub gap : new.gap ≡ old.gap
  pub whole : new.whole ≡ old.whole
  pub cutoff : new.cutoff ≡ old.cutoff
  pub handed : new.handed ≡ old.handed

same_itself : (old new : TaskState) → new ≡ old → IsSameTask old new
same_itself old new e = record {
  problem = ap (λ (t : TaskState). t.problem) e;
  ticket = ap (λ (t : TaskState). t.ticket) e;
  gap = ap (λ (t : TaskState). t.gap) e;
  whole = ap (λ (t : TaskState). t.whole) e;
  cutoff = ap (λ (t : TaskState). t.cutoff) e;
  handed = ap (λ (t : TaskState). t.handed) e;
}

same_on : (a b c : TaskState) → IsSameTask a b → IsSameTask b c → IsSameTask a c
same_on a b c f g = record {
  problem = g.problem ∙ f.problem;
  ticket = g.ticket ∙ f.ticket;
  gap = g.gap ∙ f.gap;
  whole = g.whole ∙ f.whole;
  cutoff = g.cutoff ∙ f.cutoff;
  handed = g.handed ∙ f.handed;
}

pub quiet_same : (n : ℕ) (old new : TaskState) → AreQuiet n old new → IsSameTask old new
quiet_same zero old new e = same_itself old new e
quiet_same (suc n) old new (mid, more, inl pruned) =
    same_on old mid new (quiet_same n old mid more) (record {
      problem = ap (λ (t : TaskState). t.problem) pruned.same;
      ticket = ap (λ (t : TaskState). t.ticket) pruned.same;
      gap = ap (λ (t : TaskState). t.gap) pruned.same;
      whole = ap (λ (t : TaskState). t.whole) pruned.same;
      cutoff = ap (λ (t : TaskState). t.cutoff) pruned.same;
      handed = ap (λ (t : TaskState). t.handed) pruned.same;
    })
quiet_same (suc n) old new (mid, more, inr split) =
    same_on old mid new (quiet_same n old mid more) (record {
      problem = ap (λ (t : TaskState). t.problem) split.same;
      ticket = ap (λ (t : TaskState). t.ticket) split.same;
      gap = ap (λ (t : TaskState). t.gap) split.same;
      whole = ap (λ (t : TaskState). t.whole) split.same;
      cutoff = ap (λ (t : TaskState). t.cutoff) split.same;
      handed = ap (λ (t : TaskState). t.handed) split.same;
    })

-- ---- boxes

-- the last of the boxes that a task handed is below the whole box
pub last_below : (task : TaskState) (before : List (List Interval)) (area : List Interval) → IsTask task
    → task.handed ≡ before ++ area ∷ [] → IsBelow area task.whole
last_below task before area own same =
    let all : AreBelow task.whole (before ++ area ∷ []) =
    subst (λ (boxes : List (List Interval)). AreBelow task.whole boxes) same own.handed_below in
    subst (λ (box : List Interval). IsBelow box task.whole)
    (get_or_push before area area (length before) refl)
    (all (length before) area (omega (arith, length-append before (area ∷ []))))

-- and so below the root
pub handed_below : (task : TaskState) (before : List (List Interval)) (area : List Interval) → IsTask task
    → task.handed ≡ before ++ area ∷ [] → IsBelow area (root_of task.problem)
handed_below task before area own same =
    below_trans _ _ _ (last_below task before area own same) own.whole
