use Rattle.std.proofs.Common.{◌≡◌, Some, IfSome, refl, sym, subst, arith}
use Rattle.ug_snapshot.specs.Moments.{IsCovered}
use Rattle.ug_book.specs.Openings.{IsCoveredOpening, opening_book}
use Rattle.ug_restart.specs.Moments.{IsOfRun}
use Rattle.ug_restart.specs.Saves.{IsOfSnapshot, book_of, opening_of}
use Rattle.ug_restart.proofs.Covering.{nothing_done, saving_more}
use Rattle.ug_restart.proofs.Going.{goes_nowhere, goes_where, with_calls}
use Rattle.ug_restart.proofs.Making.{of_some}
use Rattle.ug_restart.proofs.saves.Saves.offer.Goals as goal

pub returns-then-passes_over-clause-any_moment : goal.returns-then-passes_over-clause-any_moment
returns-then-passes_over-clause-any_moment g c =
    nothing_done c.args.self.now.saver _ _ (IsOfSnapshot c.args.snapshot) refl

pub returns-then-passes_over-clause-goes_on : goal.returns-then-passes_over-clause-goes_on
returns-then-passes_over-clause-goes_on g c =
    goes_nowhere (IsCoveredOpening (opening_of c.args.self.now)) (Unit {0}) _

pub returns-then-is_saved-clause-any_moment : goal.returns-then-is_saved-clause-any_moment
returns-then-is_saved-clause-any_moment g c =
    saving_more c.args.self.now.saver _ _ (λ made. c.of_snapshot-image.result ≡ Some made)
    (IsOfSnapshot c.args.snapshot)
    (λ image is. of_some c.of_snapshot-image.result (IsOfSnapshot c.args.snapshot) image
    c.of_snapshot-image.ensures.of is) c.save.ensures.any_moment

pub returns-then-is_saved-clause-goes_on : goal.returns-then-is_saved-clause-goes_on
returns-then-is_saved-clause-goes_on g c =
    let due = c.if-passes_over.ensures.due in
    with_calls (IsCoveredOpening (opening_of c.args.self.now)) (Unit {0}) _ _
    c.count-calls.result (omega (arith, c.count-calls.ensures, due.newer))
    (goes_where (IfSome c.of_snapshot-image.result IsCovered)
    (IsCoveredOpening (opening_of c.args.self.now))
    (IfSome c.of_snapshot-image.result (IsOfRun (book_of c.args.self.now))) (Unit {0}) _ _
    (λ covered. c.of_snapshot-image.ensures.covered
    (subst IsCoveredOpening (sym due.same) covered))
    (λ ours. subst (λ o. IfSome c.of_snapshot-image.result (IsOfRun (opening_book o))) due.same
    c.of_snapshot-image.ensures.run) c.save.ensures.goes_on)

pub returns-else-is_saved-clause-any_moment : goal.returns-else-is_saved-clause-any_moment
returns-else-is_saved-clause-any_moment g c =
    saving_more c.args.self.now.saver _ _ (λ made. c.of_snapshot-image.result ≡ Some made)
    (IsOfSnapshot c.args.snapshot)
    (λ image is. of_some c.of_snapshot-image.result (IsOfSnapshot c.args.snapshot) image
    c.of_snapshot-image.ensures.of is) c.save.ensures.any_moment

pub returns-else-is_saved-clause-goes_on : goal.returns-else-is_saved-clause-goes_on
returns-else-is_saved-clause-goes_on g c =
    let due = c.if-passes_over.ensures.due in
    goes_where (IfSome c.of_snapshot-image.result IsCovered)
    (IsCoveredOpening (opening_of c.args.self.now))
    (IfSome c.of_snapshot-image.result (IsOfRun (book_of c.args.self.now))) (Unit {0}) _ _
    (λ covered. c.of_snapshot-image.ensures.covered
    (subst IsCoveredOpening (sym due.same) covered))
    (λ ours. subst (λ o. IfSome c.of_snapshot-image.result (IsOfRun (opening_book o))) due.same
    c.of_snapshot-image.ensures.run) c.save.ensures.goes_on
