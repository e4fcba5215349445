use Rattle.std.proofs.Common.{◌≡◌, Option, Some, rules, subst}
use Rattle.ug_rules.specs.Books.{IsSoundBook}
use Rattle.ug_book.specs.Views.{IsSameRun}
use Rattle.ug_restart.specs.Going.{time}
use Rattle.ug_restart.specs.Saves.{IsOfBook, book_of}
use Rattle.ug_restart.specs.declared.saves.Saves.{Saves}
use Rattle.ug_coord.specs.Keeping.{has_saved, has_tried}
use Rattle.ug_coord.proofs.Tries.{attempted_tries, none_fell}
use Rattle.ug_coord.proofs.checkpointer.Checkpointer.keep.Goals as goal

pub returns-in-Some-clause-tried : goal.returns-in-Some-clause-tried
returns-in-Some-clause-tried g c =
    let old = time c.in-Some.saves (g.D.Disk.seen c.args.disk.now) in
    let new = time c.finish.new.self (g.D.Disk.seen c.finish.new.disk) in
    let same : Some c.in-Some.saves ≡ c.args.self.now.saves = search rules in
    subst (λ (s : Option Saves). has_tried 1 s (Some c.finish.new.self)) same
    (attempted_tries (IsOfBook c.args.book.now) c.finish.result old new c.finish.ensures.became
    (none_fell (IsSoundBook c.args.book.now) (IsSameRun (book_of c.in-Some.saves) c.args.book.now) old new
    c.finish.ensures.goes_on))

pub returns-in-Some-clause-saved : goal.returns-in-Some-clause-saved
returns-in-Some-clause-saved g c =
    let seen = g.D.Disk.seen c.args.disk.now in
    let then = g.D.Disk.seen c.finish.new.disk in
    let same : Some c.in-Some.saves ≡ c.args.self.now.saves = search rules in
    subst (λ (s : Option Saves). has_saved c.args.book.now s seen (Some c.finish.new.self) then) same
    (c.finish.result, c.finish.ensures.became)
