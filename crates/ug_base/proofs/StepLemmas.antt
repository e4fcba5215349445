-- A step keeps what every task is, and leaves less to search.
use Rattle.std.proofs.Common.{◌≡◌, ℤ, pos, ◌+ℤ◌, ◌≤ℤ◌, ◌+◌, ◌-◌, ◌<◌, ◌<ℤ◌, ◌⊎◌, inl, inr, List, [], ◌∷◌, ◌++◌, length, Option, Some, None, IfSome, refl, sym, ap, ◌∙◌, subst, arith}
use Rattle.std.proofs.lemmas.Int.{ints}
use Rattle.std.proofs.lemmas.List.{length-append}
use Rattle.std.proofs.lemmas.List.Elements.{All-append, All-cons, All-nil, All-take}
use Rattle.ug_rows.specs.declared.area.Interval.{Interval}
use Rattle.ug_rows.specs.Boxes.{IsBelow, IsInside, IsInOne}
use Rattle.ug_rows.specs.Rows.{value_of}
use Rattle.ug_problem.specs.Instances.{Instance}
use Rattle.ug_problem.specs.Feasible.{Feasible}
use Rattle.ug_problem.specs.Limits.{IsProblem}
use Rattle.ug_problem.proofs.Cutoffs.{cutoff_small, good_is_less}
use Rattle.ug_propagate.specs.Working.{WorkState}
use Rattle.ug_base.specs.declared.branching.Branching.{Branching}
use Rattle.ug_base.specs.declared.open_box.OpenBox.{OpenBox}
use Rattle.ug_base.specs.Chains.{HasSplit, area_of, areas_of}
use Rattle.ug_base.specs.Branchings.{first_half, other_half}
use Rattle.ug_base.proofs.Chains.{areas_behind, areas_front}
use Rattle.ug_problem.specs.Better.{HasNoGood, IsGap, IsGood, cutoff_of}
use Rattle.ug_rows.proofs.AreaLemmas.{below_trans}
use Rattle.ug_base.specs.Steps.{IsFound, IsPruned, IsSplit, Leaves, LeavesNone}
use Rattle.ug_base.proofs.Through.{IsPointLeft}
use Rattle.ug_base.specs.Points.{measure_of, weight_of}
use Rattle.ug_base.specs.Tasks.{AreBelow, IsTask, TaskState}
use Rattle.ug_base.specs.Evaluations.{AreGoodHalves, CanEvaluate, Halves, IsBranched, IsOnlyGood, IsSeenBranched, halves_at}
use Rattle.ug_base.specs.Fronts.{front_of}
use Rattle.ug_base.proofs.LastBox.{all_last, in_one_behind, in_one_front, in_one_split}
use Rattle.ug_base.proofs.Measures.{measure_push, measure_push_two}

-- the last box is below the whole box
pub last_below : (t : TaskState) (last : List Interval) → IsTask t → t.boxes ≡ front_of t.boxes ++ last ∷ [] → IsBelow last t.whole
last_below t last task e = all_last (λ (area : List Interval). IsBelow area t.whole) (front_of t.boxes) last
    (subst (AreBelow t.whole) e task.below)

-- and so a box of the problem
pub last_ready : (t : TaskState) (last : List Interval) → IsTask t → t.boxes ≡ front_of t.boxes ++ last ∷ [] → CanEvaluate t.problem t.cutoff last
last_ready t last task e = record {
  problem = task.problem;
  below = below_trans _ _ _ (last_below t last task e) task.whole;
  small = task.cutoff;
}

-- a good point stays covered if the new boxes have each one that was in the last box, and each that
-- was in one before it
still_covered : (t : TaskState) (last : List Interval) (boxes : List (List Interval)) (x : List ℤ) → IsTask t → t.boxes ≡ front_of t.boxes ++ last ∷ []
    → IsInside t.whole x → IsGood t.problem t.cutoff x → (IsInOne (front_of t.boxes) x → IsInOne boxes x) → (IsInside last x → IsInOne boxes x)
    → IsInOne boxes x ⊎ IsInOne t.handed x
still_covered t last boxes x task e inside good front back = elim (task.covered x inside good) [
  | inl a ↦ inl (elim (in_one_split (front_of t.boxes) last x (subst (λ bs. IsInOne bs x) e a)) [ inl f ↦ front f | inr l ↦ back l ])
  | inr b ↦ inr b
]

front_below : (t : TaskState) → IsTask t → AreBelow t.whole (front_of t.boxes)
front_below t task = All-take (λ (area : List Interval). IsBelow area t.whole) (length t.boxes - 1) t.boxes task.below

-- without a last box that had no good point
pub pruned_task : (t : TaskState) (last : List Interval) → IsTask t → t.boxes ≡ front_of t.boxes ++ last ∷ []
    → HasNoGood t.problem t.cutoff last → IsTask (record t { boxes = front_of t.boxes })
pruned_task t last task e none = record {
  problem = task.problem;
  whole = task.whole;
  cutoff = task.cutoff;
  gap = task.gap;
  below = front_below t task;
  handed_below = task.handed_below;
  covered = λ x inside good. still_covered t last (front_of t.boxes) x task e inside good (λ a. a) (λ b. absurd (none x b good));
}

less_value : (v w gap : ℤ) → pos 0 ≤ℤ gap → (w +ℤ gap) <ℤ v → w <ℤ v
less_value v w gap g h = omega (arith, ints, g, h)

less_still : (cutoff : Option ℤ) (v w : ℤ) → IfSome cutoff (λ c. v <ℤ c) → w <ℤ v → IfSome cutoff (λ c. w <ℤ c)
less_still None v w h k = tt
less_still (Some c) v w h k = omega (arith, ints, h, k)

-- a point below the cutoff of a point has a smaller value
pub less_than : (p : Instance) (gap : ℤ) (x y : List ℤ) → IsProblem p → IsGap gap → IsGood p (Some (cutoff_of p gap x)) y
    → value_of p.objective y <ℤ value_of p.objective x
less_than p gap x y problem g good =
    less_value (value_of p.objective x) (value_of p.objective y) gap g.low (good_is_less p gap (Some x) y problem good)

-- and is good where that one is
pub good_still : (p : Instance) (cutoff : Option ℤ) (x y : List ℤ) → IsGood p cutoff x → Feasible p y
    → value_of p.objective y <ℤ value_of p.objective x → IsGood p cutoff y
good_still p cutoff x y good feasible less = record {
  feasible = feasible;
  less = less_still cutoff (value_of p.objective x) (value_of p.objective y) good.less less;
}

not_below_itself : (p : Instance) (x y : List ℤ) → y ≡ x → value_of p.objective y <ℤ value_of p.objective x → ⊥
not_below_itself p x y e h = let same = ap (value_of p.objective) e in omega (arith, ints, same, h)

-- without a last box of which one point was good, below whose cutoff there is none in it
pub found_task : (t : TaskState) (last : List Interval) (x : List ℤ) → IsTask t → t.boxes ≡ front_of t.boxes ++ last ∷ []
    → IsOnlyGood t.problem t.cutoff last x
    → IsTask (record t { boxes = front_of t.boxes; cutoff = Some (cutoff_of t.problem t.gap x) })
found_task t last x task e seen = record {
  problem = task.problem;
  whole = task.whole;
  cutoff = cutoff_small t.problem t.gap x (cutoff_of t.problem t.gap x) task.problem task.gap refl seen.good.feasible.inside;
  gap = task.gap;
  below = front_below t task;
  handed_below = task.handed_below;
  covered = λ y inside good'.
      let less = less_than t.problem t.gap x y task.problem task.gap good' in
      let good : IsGood t.problem t.cutoff y = good_still t.problem t.cutoff x y seen.good good'.feasible less in
      still_covered t last (front_of t.boxes) y task e inside good (λ a. a)
      (λ b. absurd (not_below_itself t.problem x y (seen.alone y b good) less));
}

-- with two branches in the last box's place
pub split_task : (t : TaskState) (last : List Interval) (halves : Halves) → IsTask t → t.boxes ≡ front_of t.boxes ++ last ∷ []
    → AreGoodHalves t.problem t.cutoff last halves
    → IsTask (record t { boxes = front_of t.boxes ++ halves.second ∷ halves.first ∷ [] })
split_task t last halves task e seen =
    let P : List Interval → Type 0 = λ (area : List Interval). IsBelow area t.whole in
    let below : IsBelow last t.whole = last_below t last task e in
    let first : P halves.first = below_trans _ _ _ seen.below_first below in
    let second : P halves.second = below_trans _ _ _ seen.below_second below in
    record {
      problem = task.problem;
      whole = task.whole;
      cutoff = task.cutoff;
      gap = task.gap;
      below = All-append P (front_of t.boxes) (halves.second ∷ halves.first ∷ []) (front_below t task)
          (All-cons P halves.second (halves.first ∷ []) second (All-cons P halves.first [] first (All-nil P)));
      handed_below = task.handed_below;
      covered = λ x inside good. still_covered t last (front_of t.boxes ++ halves.second ∷ halves.first ∷ []) x task e inside good
          (in_one_front (front_of t.boxes) (halves.second ∷ halves.first ∷ []) x)
          (λ b. in_one_behind (front_of t.boxes) (halves.second ∷ halves.first ∷ []) x (elim (seen.kept x b good) [
            | inl f ↦ inr (inl f)
            | inr s ↦ inl s
          ]));
    }

-- the last of a task's boxes, seen in its fields
pub last_of_fields : (t : TaskState) (work : WorkState) (old : List OpenBox) (last : OpenBox) → t.boxes ≡ areas_of work old
    → old ≡ front_of old ++ last ∷ [] → t.boxes ≡ front_of t.boxes ++ area_of work last ∷ []
last_of_fields t work old last same e =
    same ∙ areas_behind work old old (last ∷ []) e ∙ ap (λ bs. front_of bs ++ area_of work last ∷ []) (sym same)

-- the boxes but the last, where the working box continued
front_of_fields : (t : TaskState) (before after : WorkState) (old new : List OpenBox) → t.boxes ≡ areas_of before old
    → areas_of after old ≡ areas_of before old → new ≡ front_of old → areas_of after new ≡ front_of t.boxes
front_of_fields t before after old new same kept e =
    ap (areas_of after) e ∙ areas_front after old
    ∙ ap (λ (bs : List (List Interval)). front_of bs) (kept ∙ sym same)

-- the same of the fields of a task, after a look at the last box
pub after_hopeless : (t : TaskState) (before after : WorkState) (old new : List OpenBox) (last : OpenBox) → t.boxes ≡ areas_of before old
    → IsTask t → old ≡ front_of old ++ last ∷ [] → areas_of after old ≡ areas_of before old
    → HasNoGood t.problem t.cutoff (area_of before last) → new ≡ front_of old
    → IsTask (record t { boxes = areas_of after new })
after_hopeless t before after old new last same task e kept s dropped =
    subst (λ bs. IsTask (record t { boxes = bs })) (sym (front_of_fields t before after old new same kept dropped))
    (pruned_task t (area_of before last) task (last_of_fields t before old last same e) s)

pub after_solved : (t : TaskState) (before after : WorkState) (old new : List OpenBox) (last : OpenBox) (x : List ℤ) (cutoff : Option ℤ)
    → t.boxes ≡ areas_of before old → IsTask t → old ≡ front_of old ++ last ∷ [] → areas_of after old ≡ areas_of before old
    → IsOnlyGood t.problem t.cutoff (area_of before last) x → new ≡ front_of old → cutoff ≡ Some (cutoff_of t.problem t.gap x)
    → IsTask (record t { boxes = areas_of after new; cutoff = cutoff })
after_solved t before after old new last x cutoff same task e kept s dropped value =
    subst (λ bs. IsTask (record t { boxes = bs; cutoff = cutoff })) (sym (front_of_fields t before after old new same kept dropped))
    (subst (λ c. IsTask (record t { boxes = front_of t.boxes; cutoff = c })) (sym value)
    (found_task t (area_of before last) x task (last_of_fields t before old last same e) s))

-- the boxes after the last was branched on
split_boxes : (t : TaskState) (s : Instance) (before after : WorkState) (old new : List OpenBox) (branching : Branching) → t.boxes ≡ areas_of before old
    → areas_of after old ≡ areas_of before old → (h : HasSplit s t.whole after branching.first branching.branch old new)
    → areas_of after new ≡ front_of t.boxes ++ other_half branching.first after.sums.area branching.branch ∷ first_half branching.first after.sums.area branching.branch ∷ []
split_boxes t s before after old new branching same kept h =
    areas_behind after new old (h.second ∷ h.first ∷ []) h.put
    ∙ ap (λ bs. front_of bs ++ area_of after h.second ∷ area_of after h.first ∷ []) (kept ∙ sym same)
    ∙ ap (λ (a : List Interval). front_of t.boxes ++ a ∷ area_of after h.first ∷ []) h.area_second
    ∙ ap (λ (a : List Interval). front_of t.boxes ++ other_half branching.first after.sums.area branching.branch ∷ a ∷ []) h.area_first

pub after_halved : (t : TaskState) (s : Instance) (before after : WorkState) (old new : List OpenBox) (last : OpenBox) (branching : Branching)
    → t.boxes ≡ areas_of before old → IsTask t → old ≡ front_of old ++ last ∷ [] → areas_of after old ≡ areas_of before old
    → AreGoodHalves t.problem t.cutoff (area_of before last) (halves_at branching.first after.sums.area branching.branch)
    → HasSplit s t.whole after branching.first branching.branch old new
    → IsTask (record t { boxes = areas_of after new })
after_halved t s before after old new last branching same task e kept good h =
    subst (λ bs. IsTask (record t { boxes = bs })) (sym (split_boxes t s before after old new branching same kept h))
    (split_task t (area_of before last) (halves_at branching.first after.sums.area branching.branch) task
    (last_of_fields t before old last same e) good)

-- what a step that pruned the last box did
pub pruned_step : (t : TaskState) (before after : WorkState) (old new : List OpenBox) (last : OpenBox) → t.boxes ≡ areas_of before old
    → old ≡ front_of old ++ last ∷ [] → areas_of after old ≡ areas_of before old
    → LeavesNone t.params.base t.problem t.cutoff (area_of before last) → new ≡ front_of old
    → IsPruned t (record t { boxes = areas_of after new })
pruned_step t before after old new last same e kept none dropped =
    let front : areas_of after new ≡ front_of t.boxes = front_of_fields t before after old new same kept dropped in
    record {
      last = area_of before last;
      boxes = last_of_fields t before old last same e ∙ ap (λ bs. bs ++ area_of before last ∷ []) (sym front);
      same = refl;
      hopeless = none;
    }

-- what a step that found a point did
pub found_step : (t : TaskState) (before after : WorkState) (old new : List OpenBox) (last : OpenBox) (x : List ℤ) (cutoff : Option ℤ)
    → t.boxes ≡ areas_of before old → old ≡ front_of old ++ last ∷ [] → areas_of after old ≡ areas_of before old
    → IsPointLeft t.params.base t.problem t.cutoff (area_of before last) x → new ≡ front_of old → cutoff ≡ Some (cutoff_of t.problem t.gap x)
    → IsFound t (record t { boxes = areas_of after new; cutoff = cutoff }) x
found_step t before after old new last x cutoff same e kept solved dropped value =
    let front : areas_of after new ≡ front_of t.boxes = front_of_fields t before after old new same kept dropped in
    record {
      last = area_of before last;
      boxes = last_of_fields t before old last same e ∙ ap (λ bs. bs ++ area_of before last ∷ []) (sym front);
      inner = solved.inner;
      left = solved.left;
      fixed = solved.fixed;
      point = solved.point;
      good = solved.good;
      same = ap (λ (c : Option ℤ). record t { boxes = areas_of after new; cutoff = c }) value;
    }

-- what a step that branched on the last box did
pub split_step : (t : TaskState) (s : Instance) (before after : WorkState) (old new : List OpenBox) (last : OpenBox) (branching : Branching)
    → t.boxes ≡ areas_of before old → old ≡ front_of old ++ last ∷ [] → areas_of after old ≡ areas_of before old
    → Leaves t.params.base t.problem t.cutoff (area_of before last) after.sums.area → IsBranched t.params after.sums.area branching
    → HasSplit s t.whole after branching.first branching.branch old new
    → IsSplit t (record t { boxes = areas_of after new })
split_step t s before after old new last branching same e kept left branched h = record {
  before = front_of t.boxes;
  last = area_of before last;
  boxes = last_of_fields t before old last same e;
  inner = after.sums.area;
  left = left;
  some = branched.some;
  branching = branching;
  may = branched.may;
  same = ap (λ bs. record t { boxes = bs }) (split_boxes t s before after old new branching same kept h);
}

dropped_less : (boxes : List (List Interval)) (last : List Interval) → boxes ≡ front_of boxes ++ last ∷ []
    → measure_of (front_of boxes) < measure_of boxes
dropped_less boxes last e = let m = ap measure_of e in omega (arith, m, measure_push (front_of boxes) last)

halved_less : (boxes : List (List Interval)) (last first second : List Interval) → boxes ≡ front_of boxes ++ last ∷ []
    → weight_of second + weight_of first < weight_of last → measure_of (front_of boxes ++ second ∷ first ∷ []) < measure_of boxes
halved_less boxes last first second e h =
    let m = ap measure_of e in
    omega (arith, m, measure_push (front_of boxes) last, measure_push_two (front_of boxes) second first, h)

-- a box dropped leaves less
pub left_dropped_less : (t : TaskState) (before after : WorkState) (old new : List OpenBox) (last : OpenBox) → t.boxes ≡ areas_of before old
    → old ≡ front_of old ++ last ∷ [] → areas_of after old ≡ areas_of before old → new ≡ front_of old
    → measure_of (areas_of after new) < measure_of t.boxes
left_dropped_less t before after old new last same e kept dropped =
    subst (λ bs. measure_of bs < measure_of t.boxes) (sym (front_of_fields t before after old new same kept dropped))
    (dropped_less t.boxes (area_of before last) (last_of_fields t before old last same e))

-- and one branched on
pub left_halved_less : (t : TaskState) (s : Instance) (before after : WorkState) (old new : List OpenBox) (last : OpenBox) (branching : Branching)
    → t.boxes ≡ areas_of before old → old ≡ front_of old ++ last ∷ [] → areas_of after old ≡ areas_of before old
    → IsSeenBranched s t.cutoff t.params (area_of before last) after branching
    → HasSplit s t.whole after branching.first branching.branch old new
    → measure_of (areas_of after new) < measure_of t.boxes
left_halved_less t s before after old new last branching same e kept seen h =
    subst (λ bs. measure_of bs < measure_of t.boxes) (sym (split_boxes t s before after old new branching same kept h))
    (halved_less t.boxes (area_of before last) (first_half branching.first after.sums.area branching.branch)
    (other_half branching.first after.sums.area branching.branch) (last_of_fields t before old last same e) seen.halved.less)

-- if there is a last box, there are boxes
pub some_left : (t : TaskState) (work : WorkState) (old : List OpenBox) (last : OpenBox) → t.boxes ≡ areas_of work old
    → old ≡ front_of old ++ last ∷ [] → t.boxes ≡ [] → ⊥
some_left t work old last same e none =
    let n = ap (λ (bs : List (List Interval)). length bs) (sym none ∙ last_of_fields t work old last same e) in
    absurd (omega (arith, n, length-append (front_of t.boxes) (area_of work last ∷ [])))

-- the rest of the last box is below the whole one
pub left_below : (t : TaskState) (s : Instance) (before after : WorkState) (old : List OpenBox) (last : OpenBox) (branching : Branching)
    → t.boxes ≡ areas_of before old → IsTask t → old ≡ front_of old ++ last ∷ []
    → IsSeenBranched s t.cutoff t.params (area_of before last) after branching → IsBelow after.sums.area t.whole
left_below t s before after old last branching same task e seen =
    below_trans _ _ _ seen.below (last_below t (area_of before last) task (last_of_fields t before old last same e))
