use Rattle.std.proofs.Common.{◌∙◌, List, ap, subst, sym}
use Rattle.ug_rows.specs.declared.area.Interval.{Interval}
use Rattle.ug_base.specs.Chains.{IsCut, narrowed}
use Rattle.ug_base.proofs.Chains.{base_later, bases_later, bases_trans, cut_some}
use Rattle.ug_base.proofs.evaluation.enter.Goals as goal

pub returns-in_err-narrow-clause-kept : goal.returns-in_err-narrow-clause-kept
returns-in_err-narrow-clause-kept c =
    bases_trans c.args.open_box.depth c.args.work.now c.begin.new.work c.narrow.new.work c.begin.ensures.kept
    (bases_later c.args.open_box.depth c.begin.new.work c.narrow.new.work c.begin.ensures.kept.deep c.narrow.ensures.went.later)

pub returns-clause-kept : goal.returns-clause-kept
returns-clause-kept c =
    bases_trans c.args.open_box.depth c.args.work.now c.begin.new.work c.narrow.new.work c.begin.ensures.kept
    (bases_later c.args.open_box.depth c.begin.new.work c.narrow.new.work c.begin.ensures.kept.deep c.narrow.ensures.went.later)

pub has_some-requires : goal.has_some-requires
has_some-requires c =
    let P : List Interval → Type 0 = λ (a : List Interval). IsCut c.args.problem.now a c.args.open_box.cut in
    cut_some c.args.problem.now c.begin.new.work.sums.area c.narrow.new.work.sums.area c.args.open_box.cut
    c.begin.ensures.working.box.sums.width (subst P (sym c.begin.ensures.area) c.requires.open_box.cut) c.in_ok-narrow.ensures.area

pub narrow-requires-clause-cut : goal.narrow-requires-clause-cut
narrow-requires-clause-cut c =
    let P : List Interval → Type 0 = λ (a : List Interval). IsCut c.args.problem.now a c.args.open_box.cut in
    subst P (sym c.begin.ensures.area) c.requires.open_box.cut

pub returns-in_err-narrow-clause-base : goal.returns-in_err-narrow-clause-base
returns-in_err-narrow-clause-base c =
    base_later c.args.problem.now c.args.whole.now c.begin.new.work c.narrow.new.work c.begin.ensures.base c.narrow.ensures.went.later
    c.narrow.ensures.went.working.box

pub returns-clause-base : goal.returns-clause-base
returns-clause-base c =
    base_later c.args.problem.now c.args.whole.now c.begin.new.work c.narrow.new.work c.begin.ensures.base c.narrow.ensures.went.later
    c.narrow.ensures.went.working.box

pub returns-clause-area : goal.returns-clause-area
returns-clause-area c =
    c.in_ok-narrow.ensures.area ∙ ap (λ (a : List Interval). narrowed c.args.open_box.cut a) c.begin.ensures.area
