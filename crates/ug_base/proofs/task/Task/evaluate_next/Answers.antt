use Rattle.std.proofs.Common.{◌≡◌, ◌∙◌, ◌↔◌, ◌<◌, Result, Ok, Err, OnErr, List, [], ap, length, refl, rules, subst, sym}
use Rattle.std.proofs.lemmas.List.{length-map}
use Rattle.ug_problem.specs.Instances.{Instance, bounds_of}
use Rattle.ug_base.specs.declared.evaluation.Seen.{Seen}
use Rattle.ug_base.specs.declared.open_box.OpenBox.{OpenBox}
use Rattle.ug_base.specs.Chains.{IsChain, area_of, areas_of}
use Rattle.ug_base.specs.Evaluations.{IsSeen, halves_at}
use Rattle.ug_rows.specs.Boxes.{IsBelow}
use Rattle.ug_base.specs.Points.{measure_of}
use Rattle.ug_base.specs.Steps.{IsFound, IsPruned, IsSplit}
use Rattle.ug_base.specs.declared.step.Step.TheVariants.{Found, Split, Empty}
use Rattle.ug_base.specs.Tasks.{IsTask, TaskState}
use Rattle.ug_base.specs.Views.{state_of}
use Rattle.ug_base.proofs.Chains.{chain_front}
use Rattle.ug_base.proofs.Closed.{left_closed}
use Rattle.ug_base.proofs.StepLemmas.{after_halved, after_hopeless, after_solved, found_step, last_below, last_of_fields, last_ready, left_below, left_dropped_less, left_halved_less, pruned_step, some_left, split_step}
use Rattle.ug_base.proofs.TaskLemmas.{same_task, searches_found}
use Rattle.ug_base.proofs.Through.{follows_of, good_back, good_halves, leaves, leaves_none, none_good, only_good, point_left, root_same}
use Rattle.ug_base.proofs.task.Task.evaluate_next.Goals as goal

pub evaluate_last-requires-clause-below : goal.evaluate_last-requires-clause-below
evaluate_last-requires-clause-below c =
    let t = state_of c.self.inside in
    let s = c.self.inside.formulation.searched in
    let area = area_of c.self.inside.work c.in-Some.last in
    let f = follows_of t.params.base t.problem t.whole t.cutoff s c.self.invariant.searched in
    subst (IsBelow area) (sym (root_same t.problem t.whole t.cutoff s f))
    (last_ready t area c.self.invariant.task
    (last_of_fields t c.self.inside.work c.self.inside.open_boxes c.in-Some.last refl c.in-Some.ensures)).below

pub evaluate_last-requires-clause-whole : goal.evaluate_last-requires-clause-whole
evaluate_last-requires-clause-whole c =
    let t = state_of c.self.inside in
    let s = c.self.inside.formulation.searched in
    let f = follows_of t.params.base t.problem t.whole t.cutoff s c.self.invariant.searched in
    subst (IsBelow t.whole) (sym (root_same t.problem t.whole t.cutoff s f)) c.self.invariant.task.whole

pub invariant_of-self-in-Hopeless : goal.invariant_of-self-in-Hopeless
invariant_of-self-in-Hopeless c =
    let t = state_of c.self.inside in
    let s = c.self.inside.formulation.searched in
    let after = c.evaluate_last.new.work in
    let P : Seen → Type 0 = λ (seen : Seen). IsSeen s t.cutoff t.params (area_of c.self.inside.work c.in-Some.last) after seen in
    let area = area_of c.self.inside.work c.in-Some.last in
    let f = follows_of t.params.base t.problem t.whole t.cutoff s c.self.invariant.searched in
    let below = last_below t area c.self.invariant.task
    (last_of_fields t c.self.inside.work c.self.inside.open_boxes c.in-Some.last refl c.in-Some.ensures) in
    record {
      task = after_hopeless t c.self.inside.work after c.self.inside.open_boxes _ c.in-Some.last refl c.self.invariant.task
          c.in-Some.ensures c.in_ok-reason.ensures.areas
          (none_good t.problem t.whole t.cutoff s area f below (subst P c.in-Hopeless.is c.in_ok-reason.ensures.seen).none)
          c.drop_last.ensures;
      chain = subst (λ (ps : List OpenBox). IsChain s t.whole after ps) (sym c.drop_last.ensures)
          (chain_front s t.whole after c.self.inside.open_boxes c.in_ok-reason.ensures.chain);
      searched = c.self.invariant.searched;
    }

pub invariant_of-self-in-Solved : goal.invariant_of-self-in-Solved
invariant_of-self-in-Solved c =
    let t = state_of c.self.inside in
    let s = c.self.inside.formulation.searched in
    let after = c.evaluate_last.new.work in
    let P : Seen → Type 0 = λ (seen : Seen). IsSeen s t.cutoff t.params (area_of c.self.inside.work c.in-Some.last) after seen in
    let area = area_of c.self.inside.work c.in-Some.last in
    let f = follows_of t.params.base t.problem t.whole t.cutoff s c.self.invariant.searched in
    let below = last_below t area c.self.invariant.task
    (last_of_fields t c.self.inside.work c.self.inside.open_boxes c.in-Some.last refl c.in-Some.ensures) in
    let seen = subst P c.in-Solved.is c.in_ok-reason.ensures.seen in
    let only = only_good t.problem t.whole t.cutoff s area f below c.in-Solved.point seen.only in
    record {
      task = after_solved t c.self.inside.work after c.self.inside.open_boxes _ c.in-Some.last c.in-Solved.point
          c.cutoff_at-cutoff.result refl c.self.invariant.task c.in-Some.ensures c.in_ok-reason.ensures.areas
          only c.drop_last-in-Solved.ensures (search rules);
      chain = subst (λ (ps : List OpenBox). IsChain s t.whole after ps) (sym c.drop_last-in-Solved.ensures)
          (chain_front s t.whole after c.self.inside.open_boxes c.in_ok-reason.ensures.chain);
      searched = searches_found t s c.in-Solved.point c.cutoff_at-cutoff.result c.self.invariant.task only.good (search rules)
          c.self.invariant.searched;
    }

pub cutoff_at-cutoff-requires-clause-width : goal.cutoff_at-cutoff-requires-clause-width
cutoff_at-cutoff-requires-clause-width c =
    let t = state_of c.self.inside in
    let s = c.self.inside.formulation.searched in
    let after = c.evaluate_last.new.work in
    let area = area_of c.self.inside.work c.in-Some.last in
    let P : Seen → Type 0 = λ (seen : Seen). IsSeen s t.cutoff t.params area after seen in
    let seen = subst P c.in-Solved.is c.in_ok-reason.ensures.seen in
    let good = good_back t.problem t.whole t.cutoff s c.in-Solved.point
    (follows_of t.params.base t.problem t.whole t.cutoff s c.self.invariant.searched) seen.only.good in
    good.feasible.inside.width ∙ length-map t.problem.columns bounds_of
    ∙ ap (λ (p : Instance). length p.columns) (sym c.problem.ensures.value)

pub split_last-requires-clause-below : goal.split_last-requires-clause-below
split_last-requires-clause-below c =
    let t = state_of c.self.inside in
    let s = c.self.inside.formulation.searched in
    let after = c.evaluate_last.new.work in
    let P : Seen → Type 0 = λ (seen : Seen). IsSeen s t.cutoff t.params (area_of c.self.inside.work c.in-Some.last) after seen in
    left_below t s c.self.inside.work after c.self.inside.open_boxes c.in-Some.last c.in-Branched.branching refl c.self.invariant.task
    c.in-Some.ensures (subst P c.in-Branched.is c.in_ok-reason.ensures.seen)

pub split_last-requires-clause-closed : goal.split_last-requires-clause-closed
split_last-requires-clause-closed c =
    let t = state_of c.self.inside in
    let s = c.self.inside.formulation.searched in
    let after = c.evaluate_last.new.work in
    let P : Seen → Type 0 = λ (seen : Seen). IsSeen s t.cutoff t.params (area_of c.self.inside.work c.in-Some.last) after seen in
    left_closed s t.whole t.cutoff t.params c.self.inside.work after c.self.inside.open_boxes c.in-Some.last c.in-Branched.branching
    c.self.invariant.chain c.in-Some.ensures (subst P c.in-Branched.is c.in_ok-reason.ensures.seen)

pub invariant_of-self-in_err-split_last-in-Branched : goal.invariant_of-self-in_err-split_last-in-Branched
invariant_of-self-in_err-split_last-in-Branched c =
    let t = state_of c.self.inside in
    let s = c.self.inside.formulation.searched in
    let after = c.evaluate_last.new.work in
    let same = c.in_err-split_last-in-Branched.ensures.err in
    record {
      task = subst (λ (ps : List OpenBox). IsTask (record t { boxes = areas_of after ps })) (sym same)
          (same_task t c.self.inside.work after c.self.inside.open_boxes refl c.in_ok-reason.ensures.areas c.self.invariant.task);
      chain = subst (λ (ps : List OpenBox). IsChain s t.whole after ps) (sym same) c.in_ok-reason.ensures.chain;
      searched = c.self.invariant.searched;
    }

pub invariant_of-self-in-Branched : goal.invariant_of-self-in-Branched
invariant_of-self-in-Branched c =
    let t = state_of c.self.inside in
    let s = c.self.inside.formulation.searched in
    let after = c.evaluate_last.new.work in
    let P : Seen → Type 0 = λ (seen : Seen). IsSeen s t.cutoff t.params (area_of c.self.inside.work c.in-Some.last) after seen in
    let area = area_of c.self.inside.work c.in-Some.last in
    let f = follows_of t.params.base t.problem t.whole t.cutoff s c.self.invariant.searched in
    let below = last_below t area c.self.invariant.task
    (last_of_fields t c.self.inside.work c.self.inside.open_boxes c.in-Some.last refl c.in-Some.ensures) in
    let seen = subst P c.in-Branched.is c.in_ok-reason.ensures.seen in
    record {
      task = after_halved t s c.self.inside.work after c.self.inside.open_boxes _ c.in-Some.last c.in-Branched.branching refl
          c.self.invariant.task c.in-Some.ensures c.in_ok-reason.ensures.areas
          (good_halves t.problem t.whole t.cutoff s area f below (halves_at c.in-Branched.branching.first after.sums.area c.in-Branched.branching.branch) seen.halved.good)
          c.in_ok-split_last-in-Branched.ensures.ok;
      chain = c.in_ok-split_last-in-Branched.ensures.ok.chain;
      searched = c.self.invariant.searched;
    }

pub returns-in-Hopeless-clause-took : goal.returns-in-Hopeless-clause-took
returns-in-Hopeless-clause-took c =
    let t = state_of c.self.inside in
    let s = c.self.inside.formulation.searched in
    let after = c.evaluate_last.new.work in
    let P : Seen → Type 0 = λ (seen : Seen). IsSeen s t.cutoff t.params (area_of c.self.inside.work c.in-Some.last) after seen in
    let area = area_of c.self.inside.work c.in-Some.last in
    let below = last_below t area c.self.invariant.task
    (last_of_fields t c.self.inside.work c.self.inside.open_boxes c.in-Some.last refl c.in-Some.ensures) in
    subst (λ (q : TaskState). IsPruned q (record t { boxes = areas_of after c.drop_last.new.self })) c.self.view_is
    (pruned_step t c.self.inside.work after c.self.inside.open_boxes c.drop_last.new.self c.in-Some.last refl c.in-Some.ensures
    c.in_ok-reason.ensures.areas
    (leaves_none t.params.base t.problem t.whole t.cutoff s area c.self.invariant.searched below
    (subst P c.in-Hopeless.is c.in_ok-reason.ensures.seen)) c.drop_last.ensures)

pub returns-in-Hopeless-clause-less : goal.returns-in-Hopeless-clause-less
returns-in-Hopeless-clause-less c =
    let t = state_of c.self.inside in
    let s = c.self.inside.formulation.searched in
    let after = c.evaluate_last.new.work in
    subst (λ (q : TaskState). measure_of (areas_of after c.drop_last.new.self) < measure_of q.boxes) c.self.view_is
    (left_dropped_less t c.self.inside.work after c.self.inside.open_boxes c.drop_last.new.self c.in-Some.last refl
    c.in-Some.ensures c.in_ok-reason.ensures.areas c.drop_last.ensures)

pub returns-in-Solved-clause-took : goal.returns-in-Solved-clause-took
returns-in-Solved-clause-took c =
    let t = state_of c.self.inside in
    let s = c.self.inside.formulation.searched in
    let after = c.evaluate_last.new.work in
    let P : Seen → Type 0 = λ (seen : Seen). IsSeen s t.cutoff t.params (area_of c.self.inside.work c.in-Some.last) after seen in
    let area = area_of c.self.inside.work c.in-Some.last in
    let f = follows_of t.params.base t.problem t.whole t.cutoff s c.self.invariant.searched in
    let below = last_below t area c.self.invariant.task
    (last_of_fields t c.self.inside.work c.self.inside.open_boxes c.in-Some.last refl c.in-Some.ensures) in
    subst (λ (q : TaskState). IsFound q (record t {
      boxes = areas_of after c.drop_last-in-Solved.new.self;
      cutoff = c.cutoff_at-cutoff.result;
    }) c.in-Solved.point) c.self.view_is
    (found_step t c.self.inside.work after c.self.inside.open_boxes c.drop_last-in-Solved.new.self c.in-Some.last
    c.in-Solved.point c.cutoff_at-cutoff.result refl c.in-Some.ensures c.in_ok-reason.ensures.areas
    (point_left t.params.base t.problem t.whole t.cutoff s area c.in-Solved.point c.self.invariant.searched below
    (subst P c.in-Solved.is c.in_ok-reason.ensures.seen)) c.drop_last-in-Solved.ensures (search rules))

pub returns-in-Solved-clause-empty : goal.returns-in-Solved-clause-empty
returns-in-Solved-clause-empty c =
    let t = state_of c.self.inside in
    let s = c.self.inside.formulation.searched in
    subst (λ (q : TaskState). (Found c.in-Solved.point ≡ Empty) ↔ (q.boxes ≡ [])) c.self.view_is
    ((λ e. absurd (cc)), (λ none. absurd (some_left t c.self.inside.work c.self.inside.open_boxes c.in-Some.last refl c.in-Some.ensures none)))

pub returns-in-Solved-clause-less : goal.returns-in-Solved-clause-less
returns-in-Solved-clause-less c =
    let t = state_of c.self.inside in
    let s = c.self.inside.formulation.searched in
    let after = c.evaluate_last.new.work in
    subst (λ (q : TaskState). measure_of (areas_of after c.drop_last-in-Solved.new.self) < measure_of q.boxes) c.self.view_is
    (left_dropped_less t c.self.inside.work after c.self.inside.open_boxes c.drop_last-in-Solved.new.self c.in-Some.last refl
    c.in-Some.ensures c.in_ok-reason.ensures.areas c.drop_last-in-Solved.ensures)

pub returns-in_ok-split_last-in-Branched-clause-took : goal.returns-in_ok-split_last-in-Branched-clause-took
returns-in_ok-split_last-in-Branched-clause-took c =
    let t = state_of c.self.inside in
    let s = c.self.inside.formulation.searched in
    let after = c.evaluate_last.new.work in
    let P : Seen → Type 0 = λ (seen : Seen). IsSeen s t.cutoff t.params (area_of c.self.inside.work c.in-Some.last) after seen in
    let area = area_of c.self.inside.work c.in-Some.last in
    let f = follows_of t.params.base t.problem t.whole t.cutoff s c.self.invariant.searched in
    let below = last_below t area c.self.invariant.task
    (last_of_fields t c.self.inside.work c.self.inside.open_boxes c.in-Some.last refl c.in-Some.ensures) in
    let seen = subst P c.in-Branched.is c.in_ok-reason.ensures.seen in
    subst (λ (q : TaskState). IsSplit q (record t { boxes = areas_of after c.split_last.new.open_boxes })) c.self.view_is
    (split_step t s c.self.inside.work after c.self.inside.open_boxes c.split_last.new.open_boxes c.in-Some.last c.in-Branched.branching
    refl c.in-Some.ensures c.in_ok-reason.ensures.areas
    (leaves t.params.base t.problem t.whole t.cutoff s area after.sums.area c.self.invariant.searched below seen.left seen.below seen.keeps)
    seen.branched c.in_ok-split_last-in-Branched.ensures.ok)

pub returns-in_ok-split_last-in-Branched-clause-empty : goal.returns-in_ok-split_last-in-Branched-clause-empty
returns-in_ok-split_last-in-Branched-clause-empty c =
    let t = state_of c.self.inside in
    let s = c.self.inside.formulation.searched in
    subst (λ (q : TaskState). (Split ≡ Empty) ↔ (q.boxes ≡ [])) c.self.view_is
    ((λ e. absurd (cc)), (λ none. absurd (some_left t c.self.inside.work c.self.inside.open_boxes c.in-Some.last refl c.in-Some.ensures none)))

pub returns-in_ok-split_last-in-Branched-clause-less : goal.returns-in_ok-split_last-in-Branched-clause-less
returns-in_ok-split_last-in-Branched-clause-less c =
    let t = state_of c.self.inside in
    let s = c.self.inside.formulation.searched in
    let after = c.evaluate_last.new.work in
    let P : Seen → Type 0 = λ (seen : Seen). IsSeen s t.cutoff t.params (area_of c.self.inside.work c.in-Some.last) after seen in
    subst (λ (q : TaskState). measure_of (areas_of after c.split_last.new.open_boxes) < measure_of q.boxes) c.self.view_is
    (left_halved_less t s c.self.inside.work after c.self.inside.open_boxes c.split_last.new.open_boxes c.in-Some.last
    c.in-Branched.branching refl c.in-Some.ensures c.in_ok-reason.ensures.areas
    (subst P c.in-Branched.is c.in_ok-reason.ensures.seen) c.in_ok-split_last-in-Branched.ensures.ok)

-- what holds anyhow holds after an error
after_error : {T E P : Type 0} (r : Result T E) → P → OnErr r P
after_error (Ok x) h = tt
after_error (Err e) h = h

pub invariant_of-self : goal.invariant_of-self
invariant_of-self c =
    let t = state_of c.self.inside in
    record {
      task = same_task t c.self.inside.work c.evaluate_last.new.work c.self.inside.open_boxes refl c.evaluate_last.ensures.areas
          c.self.invariant.task;
      chain = c.evaluate_last.ensures.chain;
      searched = c.self.invariant.searched;
    }

pub returns-in_err-reason-clause-err : goal.returns-in_err-reason-clause-err
returns-in_err-reason-clause-err c =
    let t = state_of c.self.inside in
    after_error c.from_residual.result (ap (λ bs. record t { boxes = bs }) c.evaluate_last.ensures.areas ∙ c.self.view_is)

pub returns-in_err-split_last-in-Branched-clause-err : goal.returns-in_err-split_last-in-Branched-clause-err
returns-in_err-split_last-in-Branched-clause-err c =
    let t = state_of c.self.inside in
    let after = c.evaluate_last.new.work in
    after_error c.from_residual-in_err-split_last-in-Branched.result
    (ap (λ bs. record t { boxes = bs })
    (ap (λ (ps : List OpenBox). areas_of after ps) c.in_err-split_last-in-Branched.ensures.err ∙ c.in_ok-reason.ensures.areas)
    ∙ c.self.view_is)
