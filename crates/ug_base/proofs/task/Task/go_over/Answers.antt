use Rattle.std.proofs.Common.{◌≡◌, ◌∙◌, sym, ap, subst, List, length}
use Rattle.std.proofs.lemmas.List.{length-map}
use Rattle.ug_rows.specs.declared.area.Interval.{Interval}
use Rattle.ug_rows.specs.Boxes.{IsBelow}
use Rattle.ug_branch.specs.declared.params.Base.{Base}
use Rattle.ug_branch.specs.declared.params.Base.TheVariants.{Surrogate}
use Rattle.ug_problem.specs.declared.column.Column.{Column}
use Rattle.ug_problem.specs.Instances.{Instance, bounds_of, root_of}
use Rattle.ug_propagate.specs.Working.{WorkState}
use Rattle.ug_surrogate.specs.Stronger.{Follows}
use Rattle.ug_base.specs.Chains.{IsBase, IsChain, IsOpenBox, areas_of}
use Rattle.ug_base.specs.Formulations.{Searches}
use Rattle.ug_base.specs.Tasks.{IsTask, TaskState}
use Rattle.ug_base.specs.Views.{state_of}
use Rattle.ug_base.proofs.Chains.{areas_kept, chain_kept, last_open_box}
use Rattle.ug_base.proofs.Over.{areas_over, chain_over}
use Rattle.ug_base.proofs.Through.{follows_of, root_same}
use Rattle.ug_base.proofs.task.Task.go_over.Goals as goal

pub begin-requires-clause-open_box : goal.begin-requires-clause-open_box
begin-requires-clause-open_box c =
    let s = c.self.inside.formulation.searched in
    subst (λ (q : Instance). IsOpenBox q c.self.inside.whole c.self.inside.work c.in-Some.last) (sym c.searched.ensures.value)
    (last_open_box s c.self.inside.whole c.self.inside.work c.self.inside.open_boxes c.in-Some.last c.self.invariant.chain c.in-Some.ensures)

pub invariant_of-self : goal.invariant_of-self
invariant_of-self c =
    let t = state_of c.self.inside in
    let s = c.self.inside.formulation.searched in
    let work = c.self.inside.work in
    let open_boxes = c.self.inside.open_boxes in
    let begun = c.begin.new.work in
    let base : IsBase s t.whole begun =
    subst (λ (q : Instance). IsBase q t.whole begun) c.searched.ensures.value c.begin.ensures.base in
    let same : areas_of begun open_boxes ≡ areas_of work open_boxes =
    areas_kept work begun open_boxes c.in-Some.last c.self.invariant.chain.rising c.in-Some.ensures c.begin.ensures.kept in
    let chain : IsChain s t.whole begun open_boxes =
    chain_kept s t.whole work begun open_boxes c.in-Some.last c.self.invariant.chain c.in-Some.ensures base c.begin.ensures.kept in
    let new = c.args.stronger in
    let follows : Follows t.problem t.whole t.cutoff new =
    subst (λ (q : TaskState). Follows q.problem q.whole q.cutoff new) (sym c.self.view_is) c.requires.follows in
    let surrogate : t.params.base ≡ Surrogate =
    subst (λ (q : TaskState). q.params.base ≡ Surrogate) (sym c.self.view_is) c.requires.base in
    let f = follows_of t.params.base t.problem t.whole t.cutoff s c.self.invariant.searched in
    let open_box = last_open_box s t.whole work open_boxes c.in-Some.last c.self.invariant.chain c.in-Some.ensures in
    let below : IsBelow begun.sums.area t.whole = subst (λ (a : List Interval). IsBelow a t.whole) (sym c.begin.ensures.area) open_box.below in
    let wide : length t.whole ≡ length new.columns = c.self.invariant.task.whole.width ∙ length-map t.problem.columns bounds_of
    ∙ ap (λ (cs : List Column). length cs) (sym follows.columns) in
    let areas : areas_of c.over.new.self c.unsettle.new.self ≡ areas_of work open_boxes =
    areas_over c.args.stronger t.whole begun c.over.new.self open_boxes c.unsettle.new.self c.in-Ok.ensures.ok c.unsettle.ensures
    ∙ same in
    rw c.take.ensures (record {
      task = subst (λ bs. IsTask (record t { boxes = bs })) (sym areas) c.self.invariant.task;
      chain = chain_over s new t.whole begun c.over.new.self open_boxes c.unsettle.new.self (follows.columns ∙ sym f.columns)
          (follows.objective ∙ sym f.objective) c.columns-columns.ensures.problem wide below c.in-Ok.ensures.ok c.unsettle.ensures chain;
      searched = subst (λ (b : Base). Searches b t.problem t.whole t.cutoff new) (sym surrogate) follows;
    })

pub invariant_of-self-in-Err : goal.invariant_of-self-in-Err
invariant_of-self-in-Err c =
    let t = state_of c.self.inside in
    let s = c.self.inside.formulation.searched in
    let work = c.self.inside.work in
    let open_boxes = c.self.inside.open_boxes in
    let begun = c.begin.new.work in
    let base : IsBase s t.whole begun =
    subst (λ (q : Instance). IsBase q t.whole begun) c.searched.ensures.value c.begin.ensures.base in
    let same : areas_of begun open_boxes ≡ areas_of work open_boxes =
    areas_kept work begun open_boxes c.in-Some.last c.self.invariant.chain.rising c.in-Some.ensures c.begin.ensures.kept in
    let chain : IsChain s t.whole begun open_boxes =
    chain_kept s t.whole work begun open_boxes c.in-Some.last c.self.invariant.chain c.in-Some.ensures base c.begin.ensures.kept in
    let stays = c.in-Err.ensures.err in
    record {
      task = subst (λ bs. IsTask (record t { boxes = bs })) (sym (ap (λ (w : WorkState). areas_of w open_boxes) stays ∙ same)) c.self.invariant.task;
      chain = subst (λ (w : WorkState). IsChain s t.whole w open_boxes) (sym stays) chain;
      searched = c.self.invariant.searched;
    }

pub returns-in-Ok : goal.returns-in-Ok
returns-in-Ok c =
    let t = state_of c.self.inside in
    let s = c.self.inside.formulation.searched in
    let work = c.self.inside.work in
    let open_boxes = c.self.inside.open_boxes in
    let begun = c.begin.new.work in
    let base : IsBase s t.whole begun =
    subst (λ (q : Instance). IsBase q t.whole begun) c.searched.ensures.value c.begin.ensures.base in
    let same : areas_of begun open_boxes ≡ areas_of work open_boxes =
    areas_kept work begun open_boxes c.in-Some.last c.self.invariant.chain.rising c.in-Some.ensures c.begin.ensures.kept in
    let areas : areas_of c.over.new.self c.unsettle.new.self ≡ areas_of work open_boxes =
    areas_over c.args.stronger t.whole begun c.over.new.self open_boxes c.unsettle.new.self c.in-Ok.ensures.ok c.unsettle.ensures
    ∙ same in
    rw c.take.ensures (record { same = ap (λ bs. record t { boxes = bs }) areas ∙ c.self.view_is })

pub returns-in-Err : goal.returns-in-Err
returns-in-Err c =
    let t = state_of c.self.inside in
    let s = c.self.inside.formulation.searched in
    let work = c.self.inside.work in
    let open_boxes = c.self.inside.open_boxes in
    let begun = c.begin.new.work in
    let base : IsBase s t.whole begun =
    subst (λ (q : Instance). IsBase q t.whole begun) c.searched.ensures.value c.begin.ensures.base in
    let same : areas_of begun open_boxes ≡ areas_of work open_boxes =
    areas_kept work begun open_boxes c.in-Some.last c.self.invariant.chain.rising c.in-Some.ensures c.begin.ensures.kept in
    record {
      same = ap (λ bs. record t { boxes = bs }) (ap (λ (w : WorkState). areas_of w open_boxes) c.in-Err.ensures.err ∙ same) ∙ c.self.view_is;
    }

pub begin-requires-clause-whole : goal.begin-requires-clause-whole
begin-requires-clause-whole c =
    let t = state_of c.self.inside in
    let s = c.self.inside.formulation.searched in
    let f = follows_of t.params.base t.problem t.whole t.cutoff s c.self.invariant.searched in
    subst (λ (q : Instance). IsBelow t.whole (root_of q)) (sym c.searched.ensures.value)
    (subst (λ a. IsBelow t.whole a) (sym (root_same t.problem t.whole t.cutoff s f)) c.self.invariant.task.whole)

pub begin-requires-clause-base : goal.begin-requires-clause-base
begin-requires-clause-base c =
    subst (λ (q : Instance). IsBase q c.self.inside.whole c.self.inside.work) (sym c.searched.ensures.value) c.self.invariant.chain.base
