use Rattle.std.proofs.Common.{◌∙◌, ap, sym, subst, set, ℕ, arith}
use Rattle.std.proofs.lemmas.Int.{ints}
use Rattle.ug_propagate.specs.declared.fixpoint.Fixpoint.{Fixpoint}
use Rattle.ug_propagate.specs.Working.{AllAtFixpoint}
use Rattle.ug_base.specs.declared.open_box.OpenBox.{OpenBox}
use Rattle.ug_branch.specs.Choices.{AreClosed}
use Rattle.ug_base.proofs.Closed.{closed_set}
use Rattle.ug_base.proofs.Splits.{open_box_here}
use Rattle.ug_base.proofs.split.open_box_with.Goals as goal

pub returns-clause-open_box : goal.returns-clause-open_box
returns-clause-open_box c =
    let p = c.args.problem.now in
    let work = c.args.work.now in
    let is = c.open_box_of.ensures in
    open_box_here p c.args.whole.now work c.open_box_of.result c.args.column c.args.side
    (ap (λ (q : OpenBox). q.depth) is ∙ c.trail_len.ensures) (ap (λ (q : OpenBox). q.cut) is) c.requires.there
    c.requires.below c.requires.inner c.requires.some
    (subst (λ (r : Fixpoint). AllAtFixpoint p r work.sums.area) (sym (ap (λ (q : OpenBox). q.fixpoint) is)) c.requires.fixpoint)
    (ap (λ (q : OpenBox). q.floor) is ∙ omega (arith, ints, c.floor_with-floor.ensures))
    (subst (λ (n : ℕ). AreClosed n (set work.sums.area c.args.column c.args.side)) (sym (ap (λ (q : OpenBox). q.closed) is))
    (closed_set c.args.known.closed work.sums.area c.args.column c.args.side c.requires.some
    (omega (arith, c.requires.there, c.requires.base.box.sums.width)) c.requires.inner c.requires.closed))
