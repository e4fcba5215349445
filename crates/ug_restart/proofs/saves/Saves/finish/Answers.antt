use Rattle.std.proofs.Common.{◌≡◌, Some, IfSome}
use Rattle.ug_rules.specs.Books.{IsSoundBook}
use Rattle.ug_book.specs.Views.{IsSameRun}
use Rattle.ug_snapshot.specs.Moments.{IsCovered}
use Rattle.ug_restart.specs.Moments.{IsOfRun}
use Rattle.ug_restart.specs.Saves.{IsOfBook, book_of}
use Rattle.ug_restart.proofs.Covering.{saving_more}
use Rattle.ug_restart.proofs.Going.{attempted_more, goes_where}
use Rattle.ug_restart.proofs.Making.{of_some, some_of_run}
use Rattle.ug_restart.proofs.saves.Saves.finish.Goals as goal

pub returns-clause-became : goal.returns-clause-became
returns-clause-became g c =
    attempted_more (λ made. c.of_book-image.result ≡ Some made) (IsOfBook c.args.book.now)
    (λ image is. of_some c.of_book-image.result (IsOfBook c.args.book.now) image
    c.of_book-image.ensures.of is) c.save.result _ _ c.save.ensures.became

pub returns-clause-any_moment : goal.returns-clause-any_moment
returns-clause-any_moment g c =
    saving_more c.args.self.now.saver _ _ (λ made. c.of_book-image.result ≡ Some made)
    (IsOfBook c.args.book.now)
    (λ image is. of_some c.of_book-image.result (IsOfBook c.args.book.now) image
    c.of_book-image.ensures.of is) c.save.ensures.any_moment

pub returns-clause-goes_on : goal.returns-clause-goes_on
returns-clause-goes_on g c =
    goes_where (IfSome c.of_book-image.result IsCovered) (IsSoundBook c.args.book.now)
    (IfSome c.of_book-image.result (IsOfRun (book_of c.args.self.now)))
    (IsSameRun (book_of c.args.self.now) c.args.book.now) _ _
    c.of_book-image.ensures.covered
    (λ same. some_of_run c.of_book-image.result (book_of c.args.self.now) c.args.book.now same
    c.of_book-image.ensures.of) c.save.ensures.goes_on
