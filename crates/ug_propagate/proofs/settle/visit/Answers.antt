use Rattle.std.proofs.Common.{subst, sym}
use Rattle.ug_propagate.specs.declared.row_sides.Propagated.{Propagated}
use Rattle.ug_problem.specs.ColumnEntries.{terms_of}
use Rattle.ug_propagate.specs.Working.{HasOneSide, IsAtFixpoint, IsSame, AtFixpointWhereChanged, AtFixpointWhereSame, WorkState, sides_for}
use Rattle.ug_propagate.proofs.Waiting.{visit_at_fixpoint, went_step}
use Rattle.ug_propagate.proofs.settle.visit.Goals as goal

pub returns-in-Same-clause-went : goal.returns-in-Same-clause-went
returns-in-Same-clause-went c =
    let p = c.args.problem.now in
    let old = c.args.work.now in
    let mid = c.propagate_fitting.new.work in
    let propagated = c.in_ok-reason.ensures.row_sides in
    let P : Propagated → Type 0 = λ (l : Propagated). IsSame l old mid in
    let S : Propagated → Type 0 = λ (l : Propagated). AtFixpointWhereSame l (sides_for p c.args.cutoff c.args.r) (terms_of p c.args.r) old.sums.area in
    let T : WorkState → Type 0 = λ (w : WorkState). IsAtFixpoint (sides_for p c.args.cutoff c.args.r) (terms_of p c.args.r) w.sums.area in
    visit_at_fixpoint p c.args.cutoff c.args.r old mid c.dequeue-in-Same.new.self
    (went_step p c.args.cutoff old mid c.requires.work c.propagate_fitting.ensures.step)
    (subst T (sym (subst P c.in-Same.is propagated.same)) (subst S c.in-Same.is propagated.rest))
    c.dequeue-in-Same.ensures.bit c.dequeue-in-Same.ensures.others c.dequeue-in-Same.ensures.width

pub returns-then-has_one_side-clause-went : goal.returns-then-has_one_side-clause-went
returns-then-has_one_side-clause-went c =
    let p = c.args.problem.now in
    let old = c.args.work.now in
    let mid = c.propagate_fitting.new.work in
    let S : Propagated → Type 0 = λ (l : Propagated).
    AtFixpointWhereChanged l (sides_for p c.args.cutoff c.args.r) (terms_of p c.args.r) mid.sums.area in
    visit_at_fixpoint p c.args.cutoff c.args.r old mid c.dequeue.new.self
    (went_step p c.args.cutoff old mid c.requires.work c.propagate_fitting.ensures.step)
    (subst S c.in-Changed.is c.in_ok-reason.ensures.row_sides.snug
    (subst HasOneSide c.sides_under-row_sides.ensures.value (c.has_one_side.ensures c.if-has_one_side.true)))
    c.dequeue.ensures.bit c.dequeue.ensures.others c.dequeue.ensures.width

pub returns-in_err-reason-clause-went : goal.returns-in_err-reason-clause-went
returns-in_err-reason-clause-went c =
    went_step c.args.problem.now c.args.cutoff c.args.work.now c.propagate_fitting.new.work c.requires.work c.propagate_fitting.ensures.step

pub returns-in-Emptied-clause-went : goal.returns-in-Emptied-clause-went
returns-in-Emptied-clause-went c =
    went_step c.args.problem.now c.args.cutoff c.args.work.now c.propagate_fitting.new.work c.requires.work c.propagate_fitting.ensures.step

pub returns-else-has_one_side-clause-went : goal.returns-else-has_one_side-clause-went
returns-else-has_one_side-clause-went c =
    went_step c.args.problem.now c.args.cutoff c.args.work.now c.propagate_fitting.new.work c.requires.work c.propagate_fitting.ensures.step
