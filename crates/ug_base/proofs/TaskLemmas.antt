-- A new task, and one with a lower cutoff.
use Rattle.std.proofs.Common.{◌≡◌, ℤ, ◌*◌, ◌^◌, ◌≤◌, ◌<ℤ◌, inl, inr, List, [], ◌∷◌, length, drop, ◌<◌, unsigned_abs, Option, Some, None, IfSome, sym, ap, ◌∙◌, subst, arith}
use Rattle.std.proofs.lemmas.Int.{ints}
use Rattle.std.proofs.lemmas.List.Elements.{All-cons, All-nil}
use Rattle.ug_rows.specs.declared.area.Interval.{Interval}
use Rattle.ug_rows.specs.Boxes.{IsBelow, IsInOne}
use Rattle.ug_rows.specs.Rows.{value_of}
use Rattle.ug_rows.proofs.AreaLemmas.{below_itself}
use Rattle.ug_problem.specs.Instances.{Instance, root_of}
use Rattle.ug_problem.specs.Limits.{IsProblem}
use Rattle.ug_problem.specs.Better.{IsGap, IsGood, IsSmallCutoff, cutoff_of}
use Rattle.ug_base.specs.Formulations.{Searches}
use Rattle.ug_base.proofs.StepLemmas.{good_still, less_than}
use Rattle.ug_base.proofs.Through.{searches_lower}
use Rattle.ug_rows.specs.Sums.{box_floor}
use Rattle.ug_propagate.specs.declared.fixpoint.Fixpoint.TheVariants.{Unknown}
use Rattle.ug_propagate.specs.declared.working.Trailed.{Trailed}
use Rattle.ug_propagate.specs.Working.{AreTrailed, AreMaxSpans, IsBox, WorkState, undone}
use Rattle.ug_base.specs.declared.open_box.OpenBox.{OpenBox}
use Rattle.ug_base.specs.Chains.{IsChain, IsOpenBox, areas_of, base_of}
use Rattle.ug_base.specs.Tasks.{AreBelow, IsTask, TaskState, lesser_of}
use Rattle.ug_base.proofs.Floors.{lesser_is}

-- a task with the whole box left and none handed
pub new_task : (t : TaskState) (work : WorkState) (open_boxes : List OpenBox) (gap floor : ℤ) → IsProblem t.problem
    → IsBelow t.whole (root_of t.problem) → IsSmallCutoff t.cutoff → IsGap gap → t.gap ≡ gap
    → open_boxes ≡ record { depth = 0; cut = None; floor = floor; fixpoint = Unknown; closed = 0 } ∷ [] → work.trail ≡ [] → work.sums.area ≡ t.whole
    → t.boxes ≡ areas_of work open_boxes → t.handed ≡ [] → IsTask t
new_task t work open_boxes gap floor problem below small g same e none area left handed =
    let P : List Interval → Type 0 = λ (a : List Interval). IsBelow a t.whole in
    let one : t.boxes ≡ t.whole ∷ [] = left ∙ ap (areas_of work) e
    ∙ ap (λ (trail : List Trailed). undone work.sums.area (drop 0 trail) ∷ []) none ∙ ap (λ (a : List Interval). a ∷ []) area in
    record {
      problem = problem;
      whole = below;
      cutoff = small;
      gap = subst IsGap (sym same) g;
      below = subst (AreBelow t.whole) (sym one) (All-cons P t.whole [] (below_itself t.whole) (All-nil P));
      handed_below = subst (AreBelow t.whole) (sym handed) (All-nil P);
      covered = λ x inside good. inl (subst (λ bs. IsInOne bs x) (sym one) (inl inside));
    }

-- and its one part
pub new_chain : (p : Instance) (whole : List Interval) (work : WorkState) (open_boxes : List OpenBox)
    → open_boxes ≡ record { depth = 0; cut = None; floor = box_floor p.objective work.sums.area; fixpoint = Unknown; closed = 0 } ∷ []
    → IsBox p work → work.trail ≡ [] → work.sums.area ≡ whole → IsChain p whole work open_boxes
new_chain p whole work open_boxes e box none area =
    let only : OpenBox = record { depth = 0; cut = None; floor = box_floor p.objective work.sums.area; fixpoint = Unknown; closed = 0 } in
    let C : Trailed → Type 0 = λ (change : Trailed). change.column < length p.columns in
    let base : base_of work only ≡ work.sums.area =
    ap (λ (trail : List Trailed). undone work.sums.area (drop 0 trail)) none in
    let is : IsOpenBox p whole work only = record {
      deep = omega arith;
      below = subst (λ (a : List Interval). IsBelow a whole) (sym (base ∙ area)) (below_itself whole);
      cut = tt;
      fixpoint = tt;
      floor = ap (λ (a : List Interval). box_floor p.objective a) (sym base);
      closed = λ j less. absurd (omega arith);
    } in
    subst (λ (ps : List OpenBox). IsChain p whole work ps) (sym e) (record {
      base = record {
        box = box;
        trail = subst (λ (trail : List Trailed). AreTrailed (length p.columns) trail) (sym none) (All-nil C);
        max_span = subst (λ (a : List Interval). AreMaxSpans p a work.max_span) area box.max_span;
      };
      each = All-cons (IsOpenBox p whole work) only [] is (All-nil (IsOpenBox p whole work));
      rising = (All-nil (λ (later : OpenBox). 0 ≤ later.depth), tt);
    })

-- a value below the smaller of two is below the first
below_first : (cutoff : Option ℤ) (given v : ℤ) → v <ℤ lesser_of cutoff given → IfSome cutoff (λ c. v <ℤ c)
below_first None given v h = tt
below_first (Some old) given v h = elim (lesser_is old given) [
  | inl l ↦ let e = l.0 in omega (arith, ints, h, e)
  | inr l ↦ let e = l.0 in omega (arith, ints, h, e, l.1)
]

lesser_small : (cutoff : Option ℤ) (given : ℤ) → IsSmallCutoff cutoff → unsigned_abs given ≤ 2 * 10 ^ 37
    → unsigned_abs (lesser_of cutoff given) ≤ 2 * 10 ^ 37
lesser_small None given small h = h
lesser_small (Some old) given small h = elim (lesser_is old given) [ inl l ↦ rw l.0 small | inr l ↦ rw l.0 h ]

-- a task with the smaller of its cutoff and another
pub lowered_task : (t : TaskState) (given : ℤ) (cutoff : Option ℤ) → IsTask t → unsigned_abs given ≤ 2 * 10 ^ 37
    → cutoff ≡ Some (lesser_of t.cutoff given) → IsTask (record t { cutoff = cutoff })
lowered_task t given cutoff task h e =
    subst (λ (c : Option ℤ). IsTask (record t { cutoff = c })) (sym e) (record {
      problem = task.problem;
      whole = task.whole;
      cutoff = lesser_small t.cutoff given task.cutoff h;
      gap = task.gap;
      below = task.below;
      handed_below = task.handed_below;
      covered = λ x inside good. task.covered x inside (record {
        feasible = good.feasible;
        less = below_first t.cutoff given (value_of t.problem.objective x) good.less;
      });
    })

-- a task whose boxes are the same in another working box
pub same_task : (t : TaskState) (before after : WorkState) (open_boxes : List OpenBox) → t.boxes ≡ areas_of before open_boxes
    → areas_of after open_boxes ≡ areas_of before open_boxes → IsTask t → IsTask (record t { boxes = areas_of after open_boxes })
same_task t before after open_boxes same e task =
    subst (λ (bs : List (List Interval)). IsTask (record t { boxes = bs })) (same ∙ sym e) task

-- the searched formulation stays one below the cutoff of a point that is found
pub searches_found : (t : TaskState) (s : Instance) (x : List ℤ) (cutoff : Option ℤ) → IsTask t → IsGood t.problem t.cutoff x
    → cutoff ≡ Some (cutoff_of t.problem t.gap x) → Searches t.params.base t.problem t.whole t.cutoff s
    → Searches t.params.base t.problem t.whole cutoff s
searches_found t s x cutoff task good e h =
    subst (λ (c : Option ℤ). Searches t.params.base t.problem t.whole c s) (sym e)
    (searches_lower t.params.base t.problem t.whole t.cutoff (Some (cutoff_of t.problem t.gap x)) s
    (λ y good'. good_still t.problem t.cutoff x y good good'.feasible (less_than t.problem t.gap x y task.problem task.gap good')) h)

-- and below the smaller of its cutoff and another
pub searches_lowered : (t : TaskState) (s : Instance) (given : ℤ) (cutoff : Option ℤ) → cutoff ≡ Some (lesser_of t.cutoff given)
    → Searches t.params.base t.problem t.whole t.cutoff s → Searches t.params.base t.problem t.whole cutoff s
searches_lowered t s given cutoff e h =
    subst (λ (c : Option ℤ). Searches t.params.base t.problem t.whole c s) (sym e)
    (searches_lower t.params.base t.problem t.whole t.cutoff (Some (lesser_of t.cutoff given)) s
    (λ y good. record { feasible = good.feasible; less = below_first t.cutoff given (value_of t.problem.objective y) good.less }) h)
